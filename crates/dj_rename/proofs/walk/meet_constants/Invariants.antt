use Rattle.std.proofs.Common.{take}
use Rattle.dj_rename.specs.Pools.{needs_from}
use Rattle.dj_rename.specs.Renaming.{Steps, IsState}
use Rattle.dj_rename.proofs.walk.meet_constants.Given as goal

-- the constants so far
abbrev pub invariant-loop-place : goal.invariant-loop-place
invariant-loop-place l = record {
  steps : Steps l.pool l.initial.texts (needs_from l.pool 1 (take l.place l.pool)) l.texts;
  state : IsState l.pool l.texts l.known;
}
