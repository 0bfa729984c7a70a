use Rattle.std.proofs.Common.{◌≡◌, length}
use Rattle.dj_resolution.specs.Numbers.{AreBelow}
use Rattle.dj_resolution.proofs.order.order_of.Given as goal

-- so far
abbrev pub invariant-loop-turn : goal.invariant-loop-turn
invariant-loop-turn l = AreBelow (length l.table) l.order.items × (length l.left.items ≡ length l.table)
