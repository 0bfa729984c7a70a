use Rattle.std.proofs.Common.{◌<◌, length, Some, ◌∙◌, ap, arith}
use Rattle.dj_graph.specs.Graphs.{edges_of}
use Rattle.dj_graph.specs.Searches.{Opens, Follows}
use Rattle.dj_graph.proofs.EdgeLists.{on_ok, edges_count, read_at}
use Rattle.dj_graph.proofs.StepLemmas.{follows_opened, follows_joined, follows_closed}
use Rattle.dj_graph.proofs.steps.follow.Goals as goal

pub returns-in-Unfound : goal.returns-in-Unfound
returns-in-Unfound c =
    let count = edges_count c.args.edges.now in
    let within : c.args.target < length c.args.search.now.marks.items = omega (arith, c.requires.known, c.requires.sound.marks_count, count) in
    let here = read_at c.args.search.now.marks.items c.args.target c.index.result.now within c.index.ensures in
    on_ok c.open.result (Opens c.args.target c.args.search.now c.open.new.self) (Follows (edges_of c.args.edges.now) c.args.target c.args.search.now c.open.new.self) (λ opens. follows_opened (edges_of c.args.edges.now) c.args.target c.args.search.now c.open.new.self c.requires.sound (here ∙ ap Some c.in-Unfound.is) c.requires.reached opens) c.open.ensures

pub returns-in-Open : goal.returns-in-Open
returns-in-Open c =
    let count = edges_count c.args.edges.now in
    let within : c.args.target < length c.args.search.now.marks.items = omega (arith, c.requires.known, c.requires.sound.marks_count, count) in
    let here = read_at c.args.search.now.marks.items c.args.target c.index.result.now within c.index.ensures in
    follows_joined (edges_of c.args.edges.now) c.args.target c.in-Open.place c.args.search.now c.join.new.starts c.requires.sound (here ∙ ap Some c.in-Open.is) c.requires.reached c.join.ensures

pub returns-in-Closed : goal.returns-in-Closed
returns-in-Closed c =
    let count = edges_count c.args.edges.now in
    let within : c.args.target < length c.args.search.now.marks.items = omega (arith, c.requires.known, c.requires.sound.marks_count, count) in
    let here = read_at c.args.search.now.marks.items c.args.target c.index.result.now within c.index.ensures in
    follows_closed (edges_of c.args.edges.now) c.args.target c.in-Closed.field-0 c.args.search.now c.requires.sound (here ∙ ap Some c.in-Closed.is)
