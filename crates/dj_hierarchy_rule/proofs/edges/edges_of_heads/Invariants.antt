use Rattle.std.proofs.Common.{map, take, length}
use Rattle.dj_graph.specs.Graphs.{edges_of}
use Rattle.dj_hierarchy_rule.specs.Edges.{AreEdges}
use Rattle.dj_hierarchy_rule.specs.Views.{seen_view}
use Rattle.dj_hierarchy_rule.proofs.edges.edges_of_heads.Given as goal

-- the edges that the classes so far make
abbrev pub invariant-loop-head : goal.invariant-loop-head
invariant-loop-head l = AreEdges (length l.heads) (map seen_view (take l.head-index l.heads)) l.names (edges_of l.edges.items)
