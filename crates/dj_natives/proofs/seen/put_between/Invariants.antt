use Rattle.std.proofs.Common.{◌≡◌, ◌++◌}
use Rattle.std.specs.Prelude.{slice_range}
use Rattle.dj_natives.specs.Seen.{units_at}
use Rattle.dj_natives.proofs.seen.put_between.Given as goal

-- the units so far
abbrev pub invariant-loop-at : goal.invariant-loop-at
invariant-loop-at l = l.units ≡ l.initial.units ++ slice_range (units_at l.heap l.r) l.from l.at
