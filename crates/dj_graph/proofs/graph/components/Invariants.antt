use Rattle.dj_graph.specs.Graphs.{edges_of}
use Rattle.dj_graph.proofs.Explored.{IsCovering}
use Rattle.dj_graph.proofs.graph.components.Given as goal

abbrev pub invariant-loop-root : goal.invariant-loop-root
invariant-loop-root l = IsCovering (edges_of l.edges) l.root l.search
