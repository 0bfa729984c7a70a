use Rattle.std.proofs.Common.{◌≡◌, [], replicate}
use Rattle.dj_graph.specs.Graphs.{edges_of}
use Rattle.dj_hierarchy_rule.proofs.edges.without_edges.Given as goal

-- the nodes so far
abbrev pub invariant-loop : goal.invariant-loop
invariant-loop l = edges_of l.edges.items ≡ replicate l.counter []
