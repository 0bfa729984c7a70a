use Rattle.std.proofs.Common.{◌≡◌, ◌++◌, take}
use Rattle.dj_natives.specs.Seen.{units_at}
use Rattle.dj_natives.proofs.builders.joined.Given as goal

-- the units so far
abbrev pub invariant-loop-unit : goal.invariant-loop-unit
invariant-loop-unit l = l.units ≡ units_at l.heap l.r ++ take l.unit-index l.more
