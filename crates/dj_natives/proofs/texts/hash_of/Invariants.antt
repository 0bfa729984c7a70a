use Rattle.std.proofs.Common.{◌≡◌, ◌%◌, ◌^◌, take}
use Rattle.dj_model.specs.trusted.Natives.{hash_onto}
use Rattle.dj_natives.specs.Seen.{units_at}
use Rattle.dj_natives.proofs.texts.hash_of.Given as goal

-- the hash of the units so far
abbrev pub invariant-loop-at : goal.invariant-loop-at
invariant-loop-at l = l.hash ≡ hash_onto 0 (take l.at (units_at l.heap l.r)) % 2 ^ 32
