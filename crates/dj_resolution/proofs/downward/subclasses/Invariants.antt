use Rattle.std.proofs.Common.{length}
use Rattle.dj_resolution.specs.Numbers.{AreInside, lists_of}
use Rattle.dj_resolution.proofs.downward.subclasses.Given as goal

-- so far
abbrev pub invariant-loop-class : goal.invariant-loop-class
invariant-loop-class l = AreInside (length l.table) (lists_of l.below.items)
