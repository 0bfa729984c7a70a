use Rattle.dj_natives_tests.proofs.KindsTaken.{AreOfKinds}
use Rattle.dj_natives_tests.proofs.taken.are_of_kinds.Given as goal

abbrev pub invariant-loop-at : goal.invariant-loop-at
invariant-loop-at l = AreOfKinds l.values l.kinds l.at
