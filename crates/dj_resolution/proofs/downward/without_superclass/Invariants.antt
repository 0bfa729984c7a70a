use Rattle.std.proofs.Common.{length}
use Rattle.dj_resolution.specs.Numbers.{AreBelow}
use Rattle.dj_resolution.proofs.downward.without_superclass.Given as goal

-- so far
abbrev pub invariant-loop-class : goal.invariant-loop-class
invariant-loop-class l = AreBelow (length l.table) l.order.items
