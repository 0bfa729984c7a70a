use Rattle.std.proofs.Common.{◌-◌, ◌≤◌, length}
use Rattle.dj_straight.proofs.Cuts.{AreUpTo}
use Rattle.dj_straight.proofs.cut.read_instrs.Given as goal

-- the instructions so far stand up to here
abbrev pub invariant-loop-at : goal.invariant-loop-at
invariant-loop-at l = record {
  within : l.at ≤ length l.code;
  so_far : AreUpTo l.code 0 l.instrs l.at;
}

abbrev pub decreases-loop-at : goal.decreases-loop-at
decreases-loop-at l = length l.code - l.at
