use Rattle.std.proofs.Common.{◌≡◌, ◌≤◌, ℕ, length, map, sym, ◌∙◌, subst, arith}
use Rattle.std.specs.Global.{Vec}
use Rattle.dj_graph.specs.declared.mark.NodeMark.TheVariants.{Closed}
use Rattle.dj_graph.specs.Graphs.{Edges, edges_of, AreComponents}
use Rattle.dj_graph.specs.Searches.{AllClosed}
use Rattle.dj_graph.proofs.EdgeLists.{edges_count, if_ok}
use Rattle.dj_graph.proofs.Ends.{are_components}
use Rattle.dj_graph.proofs.Explored.{covers_none, covers_more, covers_all}
use Rattle.dj_graph.proofs.graph.components.Goals as goal

pub loop-root-init : goal.loop-root-init
loop-root-init c = covers_none (edges_of c.args.edges.now) (length c.args.edges.now) c.in_ok-search.search (sym (edges_count c.args.edges.now)) c.in_ok-search.ensures

pub loop-root-preserved : goal.loop-root-preserved
loop-root-preserved c = covers_more (edges_of c.args.edges.now) c.loop-root.root c.loop-root.search c.explore.new.search c.loop-root.invariant c.in_ok-explore.ensures

pub numbers_of-requires : goal.numbers_of-requires
numbers_of-requires c =
    let count = edges_count c.args.edges.now in
    let all : length (edges_of c.args.edges.now) ≤ c.loop-root.root = omega (arith, count, c.loop-root-test.false) in
    subst AllClosed (sym c.deref.ensures.value) (covers_all (edges_of c.args.edges.now) c.loop-root.root c.loop-root.search c.loop-root.invariant all)

pub returns : goal.returns
returns c =
    let edges : Edges = edges_of c.args.edges.now in
    if_ok c.numbers_of.result (λ (numbers : Vec ℕ). map (λ (n : ℕ). Closed n) numbers.items ≡ c.deref.result.now) (λ (numbers : Vec ℕ). AreComponents edges numbers.items) (λ numbers are. are_components edges c.loop-root.search.marks.items numbers.items c.loop-root.invariant.sound.marks_count c.loop-root.invariant.sound.whole (are ∙ c.deref.ensures.value)) c.numbers_of.ensures
