use Rattle.std.proofs.Common.{◌≡◌, take}
use Rattle.dj_rename.specs.Pools.{renamed_descs}
use Rattle.dj_rename.specs.Renaming.{IsState}
use Rattle.dj_rename.proofs.renamed.new_descs.Given as goal

-- the descriptors so far
abbrev pub invariant-loop-desc : goal.invariant-loop-desc
invariant-loop-desc l = record {
  indexes : l.indexes ≡ renamed_descs l.pool l.texts (take l.desc-index l.descs);
  state : IsState l.pool l.texts l.known;
}
