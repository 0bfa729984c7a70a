use Rattle.dj_natives_tests.specs.Few.{few_types}
use Rattle.dj_natives_tests.proofs.KnownObjects.{AreKnownTo}
use Rattle.dj_natives_tests.proofs.known.are_known.Given as goal

abbrev pub invariant-loop-at : goal.invariant-loop-at
invariant-loop-at l = AreKnownTo (few_types l.few.boxed) l.heap l.at
