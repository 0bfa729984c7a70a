use Rattle.std.proofs.Common.{take, length}
use Rattle.std.specs.List.{AllByRecursion}
use Rattle.dj_code_tests.proofs.Tried.{IsTried}
use Rattle.dj_code_tests.proofs.layout.labelled.Given as goal

abbrev pub invariant-loop-i : goal.invariant-loop-i
invariant-loop-i l = AllByRecursion (IsTried (length l.items)) (take l.i l.items)
