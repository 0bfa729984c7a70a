use Rattle.std.proofs.Common.{◌≡◌, ◌++◌, take}
use Rattle.dj_model.specs.trusted.Natives as model
use Rattle.dj_natives.specs.Seen.{elements_at}
use Rattle.dj_natives.proofs.makers.put_chars.Given as goal

-- the elements so far
abbrev pub invariant-loop-at : goal.invariant-loop-at
invariant-loop-at l = l.units ≡ l.initial.units ++ take l.at (model.elements_units (elements_at l.heap l.r))
