use Rattle.std.proofs.Common.{◌≡◌, take}
use Rattle.dj_model.specs.trusted.Natives as model
use Rattle.dj_natives.proofs.names.with_dots.Given as goal

-- the units so far
abbrev pub invariant-loop-unit : goal.invariant-loop-unit
invariant-loop-unit l = l.dotted ≡ model.with_dots (take l.unit-index l.units)
