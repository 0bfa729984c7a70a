use Rattle.dj_natives.specs.Copies.{Moves}
use Rattle.dj_natives.proofs.arrays.move_up.Given as goal

-- the elements so far
abbrev pub invariant-loop-at : goal.invariant-loop-at
invariant-loop-at l = Moves l.initial.heap l.heap l.copy l.at
