use Rattle.std.proofs.Common.{◌-◌}
use Rattle.dj_numbering.proofs.Starts.{IsBetween}
use Rattle.dj_numbering.proofs.members.place_in.Given as goal

abbrev pub invariant-loop-high : goal.invariant-loop-high
invariant-loop-high l = IsBetween l.starts l.number l.low l.high

abbrev pub decreases-loop-high : goal.decreases-loop-high
decreases-loop-high l = l.high - l.low
