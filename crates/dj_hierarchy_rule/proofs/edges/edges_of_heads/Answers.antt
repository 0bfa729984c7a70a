use Rattle.std.proofs.Common.{List, length, map, take, sym, subst}
use Rattle.dj_graph.specs.Graphs.{edges_of}
use Rattle.dj_library.specs.trusted.Heads.{Head}
use Rattle.dj_hierarchy_rule.specs.Edges.{AreEdges}
use Rattle.dj_hierarchy_rule.specs.Views.{seen_view}
use Rattle.dj_hierarchy_rule.proofs.Anys.{seen_more}
use Rattle.dj_hierarchy_rule.proofs.edges.edges_of_heads.Goals as goal

pub loop-head-preserved : goal.loop-head-preserved
loop-head-preserved c =
    subst (λ (heads : List Head). AreEdges (length c.args.heads.now) heads c.args.names.now (edges_of c.add_head.new.edges.items))
    (sym (seen_more seen_view c.args.heads.now c.loop-head.head-index _ c.loop-head-test.true))
    (c.in_ok-add_head.ensures (length c.args.heads.now) (map seen_view (take c.loop-head.head-index c.args.heads.now)) c.loop-head.invariant)
