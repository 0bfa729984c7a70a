use Rattle.std.proofs.Common.{◌≡◌, take}
use Rattle.dj_natives.specs.Seen.{units_at}
use Rattle.dj_settling.proofs.messages.units_of.Given as goal

abbrev pub invariant-loop-at : goal.invariant-loop-at
invariant-loop-at l = l.units ≡ take l.at (units_at l.heap l.text)
