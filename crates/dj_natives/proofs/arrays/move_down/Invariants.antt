use Rattle.std.proofs.Common.{◌≤◌}
use Rattle.dj_natives.proofs.Moves.{MovesDown}
use Rattle.dj_natives.proofs.arrays.move_down.Given as goal

-- the elements from a place on
abbrev pub invariant-loop-left : goal.invariant-loop-left
invariant-loop-left l = record { few : l.left ≤ l.count; moves : MovesDown l.initial.heap l.heap l.copy l.count l.left }

abbrev pub decreases-loop-left : goal.decreases-loop-left
decreases-loop-left l = l.left
