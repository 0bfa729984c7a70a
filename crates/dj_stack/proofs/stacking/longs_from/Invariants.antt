use Rattle.std.proofs.Common.{◌≡◌, ◌≤◌, drop, length}
use Rattle.dj_stack.specs.Stacks.{longs_in}
use Rattle.dj_stack.proofs.stacking.longs_from.Given as goal

abbrev pub invariant-loop-left : goal.invariant-loop-left
invariant-loop-left l = record { above : l.at ≤ l.left; within : l.left ≤ length l.kinds.items; so_far : l.count ≡ longs_in (drop l.left l.kinds.items) }

abbrev pub decreases-loop-left : goal.decreases-loop-left
decreases-loop-left l = l.left
