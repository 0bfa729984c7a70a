use Rattle.std.proofs.Common.{◌≤◌, ℕ, List, length, refl, arith}
use Rattle.dj_graph.specs.Graphs.{Edges, edges_of}
use Rattle.dj_graph.specs.Searches.{Follows}
use Rattle.dj_graph.proofs.EdgeLists.{edges_count, read_at, targets_at, target_known}
use Rattle.dj_graph.proofs.Reaching.{edge_at}
use Rattle.dj_graph.proofs.StepLemmas.{node_at, node_known, looked_at, all_reach, popped, steps_looked, steps_done}
use Rattle.dj_graph.proofs.steps.look.Goals as goal

pub index-next-requires : goal.index-next-requires
index-next-requires c =
    let edges : Edges = edges_of c.args.edges.now in
    let here = node_at edges c.args.search.now c.args.place c.index.result.now c.requires.sound c.requires.last c.index.ensures in
    let known = node_known edges c.args.search.now c.args.place c.index.result.now c.requires.sound here in
    let count = c.requires.sound.looked_count in
    let size = c.args.search.now.looked.ok.0 in
    omega (arith, known, count, size)

pub bounds-edges-node : goal.bounds-edges-node
bounds-edges-node c =
    let edges : Edges = edges_of c.args.edges.now in
    let here = node_at edges c.args.search.now c.args.place c.index.result.now c.requires.sound c.requires.last c.index.ensures in
    let known = node_known edges c.args.search.now c.args.place c.index.result.now c.requires.sound here in
    let count = edges_count c.args.edges.now in
    omega (arith, known, count)

pub follow-requires-clause-known : goal.follow-requires-clause-known
follow-requires-clause-known c =
    let edges : Edges = edges_of c.args.edges.now in
    let node : ℕ = c.index.result.now in
    let targets : List ℕ = c.index-edges-node.result.items in
    let here = node_at edges c.args.search.now c.args.place node c.requires.sound c.requires.last c.index.ensures in
    let known = node_known edges c.args.search.now c.args.place node c.requires.sound here in
    let count = edges_count c.args.edges.now in
    let size = c.index-edges-node.result.ok.0 in
    let node_edges = targets_at c.args.edges.now node c.index-edges-node.result (omega (arith, known, count)) c.index-edges-node.is in
    let edge = read_at targets c.index-next.result.now c.index-then-next-len.result.now (omega (arith, size, c.len.ensures, c.if-next-len.true)) c.index-then-next-len.ensures in
    let lt = target_known edges node c.index-next.result.now c.index-then-next-len.result.now targets c.requires.inside node_edges edge in
    omega (arith, lt, count)

pub follow-requires-clause-reached : goal.follow-requires-clause-reached
follow-requires-clause-reached c =
    let edges : Edges = edges_of c.args.edges.now in
    let node : ℕ = c.index.result.now in
    let targets : List ℕ = c.index-edges-node.result.items in
    let here = node_at edges c.args.search.now c.args.place node c.requires.sound c.requires.last c.index.ensures in
    let known = node_known edges c.args.search.now c.args.place node c.requires.sound here in
    let count = edges_count c.args.edges.now in
    let size = c.index-edges-node.result.ok.0 in
    let node_edges = targets_at c.args.edges.now node c.index-edges-node.result (omega (arith, known, count)) c.index-edges-node.is in
    let edge = read_at targets c.index-next.result.now c.index-then-next-len.result.now (omega (arith, size, c.len.ensures, c.if-next-len.true)) c.index-then-next-len.ensures in
    all_reach edges c.args.search.now c.args.place node c.index-then-next-len.result.now c.requires.sound c.requires.within here (edge_at edges node c.index-then-next-len.result.now c.index-next.result.now targets node_edges edge)

pub index_mut-requires : goal.index_mut-requires
index_mut-requires c =
    let edges : Edges = edges_of c.args.edges.now in
    let here = node_at edges c.args.search.now c.args.place c.index.result.now c.requires.sound c.requires.last c.index.ensures in
    let known = node_known edges c.args.search.now c.args.place c.index.result.now c.requires.sound here in
    let follows : Follows edges c.index-then-next-len.result.now c.args.search.now c.follow.new.search = c.in_ok-follow.ensures in
    let count = follows.sound.looked_count in
    let size = c.follow.new.search.looked.ok.0 in
    omega (arith, known, count, size)

pub returns-in_ok-follow : goal.returns-in_ok-follow
returns-in_ok-follow c =
    let edges : Edges = edges_of c.args.edges.now in
    let node : ℕ = c.index.result.now in
    let next : ℕ = c.index-next.result.now in
    let target : ℕ = c.index-then-next-len.result.now in
    let targets : List ℕ = c.index-edges-node.result.items in
    let here = node_at edges c.args.search.now c.args.place node c.requires.sound c.requires.last c.index.ensures in
    let known = node_known edges c.args.search.now c.args.place node c.requires.sound here in
    let count = edges_count c.args.edges.now in
    let size = c.index-edges-node.result.ok.0 in
    let node_edges = targets_at c.args.edges.now node c.index-edges-node.result (omega (arith, known, count)) c.index-edges-node.is in
    let edge = read_at targets next target (omega (arith, size, c.len.ensures, c.if-next-len.true)) c.index-then-next-len.ensures in
    let now = looked_at edges c.args.search.now node next c.requires.sound known c.index-next.ensures in
    steps_looked edges c.args.search.now c.follow.new.search _ c.args.place node next target targets here node_edges edge now c.in_ok-follow.ensures refl

pub returns-else-next-len : goal.returns-else-next-len
returns-else-next-len c =
    let edges : Edges = edges_of c.args.edges.now in
    let node : ℕ = c.index.result.now in
    let next : ℕ = c.index-next.result.now in
    let targets : List ℕ = c.index-edges-node.result.items in
    let here = node_at edges c.args.search.now c.args.place node c.requires.sound c.requires.last c.index.ensures in
    let known = node_known edges c.args.search.now c.args.place node c.requires.sound here in
    let count = edges_count c.args.edges.now in
    let size = c.index-edges-node.result.ok.0 in
    let node_edges = targets_at c.args.edges.now node c.index-edges-node.result (omega (arith, known, count)) c.index-edges-node.is in
    let now = looked_at edges c.args.search.now node next c.requires.sound known c.index-next.ensures in
    let none : length targets ≤ next = omega (arith, size, c.len.ensures, c.if-next-len.false) in
    steps_done edges c.args.search.now c.pop.new.self c.args.place node next targets c.requires.sound c.requires.last here node_edges now none (popped c.args.search.now.work c.pop.new.self c.pop.ensures.rest)
