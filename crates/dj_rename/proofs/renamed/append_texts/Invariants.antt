use Rattle.std.proofs.Common.{◌≡◌, ◌++◌, map, take}
use Rattle.dj_pool.specs.trusted.Pool.{Utf8, IsPool}
use Rattle.dj_rename.proofs.renamed.append_texts.Given as goal

-- the texts so far
abbrev pub invariant-loop-place : goal.invariant-loop-place
invariant-loop-place l = record {
  texts : l.now ≡ l.initial.now ++ map Utf8 (take l.place l.texts);
  pool : IsPool l.now;
}
