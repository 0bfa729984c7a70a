use Rattle.dj_initialisation.proofs.InitialiserLaws.{AreSoFar}
use Rattle.dj_initialisation.proofs.initialisers.Initialisers.of.Given as goal

abbrev pub invariant-loop-class : goal.invariant-loop-class
invariant-loop-class l = AreSoFar l.image l.class l.each.items
