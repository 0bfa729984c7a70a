use Rattle.std.proofs.Common.{◌≡◌, drop}
use Rattle.dj_model.specs.trusted.Natives as model
use Rattle.dj_natives.specs.Seen.{units_at}
use Rattle.dj_natives.proofs.texts.difference.Given as goal

-- the rest decides
abbrev pub invariant-loop-at : goal.invariant-loop-at
invariant-loop-at l = model.difference (units_at l.heap l.a) (units_at l.heap l.b) ≡ model.difference (drop l.at (units_at l.heap l.a)) (drop l.at (units_at l.heap l.b))
