use Rattle.std.proofs.Common.{length}
use Rattle.dj_resolution.specs.Numbers.{AreBelow}
use Rattle.dj_resolution.proofs.downward.downward.Given as goal

-- so far
abbrev pub invariant-loop-turn : goal.invariant-loop-turn
invariant-loop-turn l = AreBelow (length l.table) l.order.items
