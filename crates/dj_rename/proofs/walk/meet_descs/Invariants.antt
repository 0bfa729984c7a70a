use Rattle.std.proofs.Common.{ℕ, map, take}
use Rattle.dj_rename.specs.Pools.{desc_need}
use Rattle.dj_rename.specs.Renaming.{Steps, IsState}
use Rattle.dj_rename.proofs.walk.meet_descs.Given as goal

-- the descriptors so far
abbrev pub invariant-loop-desc : goal.invariant-loop-desc
invariant-loop-desc l = record {
  steps : Steps l.pool l.initial.texts (map (λ (desc : ℕ). desc_need l.pool desc desc) (take l.desc-index l.descs)) l.texts;
  state : IsState l.pool l.texts l.known;
}
