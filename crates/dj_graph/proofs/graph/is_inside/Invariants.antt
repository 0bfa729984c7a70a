use Rattle.dj_graph.proofs.Insides.{AreInside}
use Rattle.dj_graph.proofs.graph.is_inside.Given as goal

abbrev pub invariant-loop-targets : goal.invariant-loop-targets
invariant-loop-targets l = AreInside l.edges l.targets-index
