use Rattle.dj_rename.specs.Renaming.{IsState}
use Rattle.dj_rename.specs.Redirecting.{IsHalfway}
use Rattle.dj_rename.proofs.renamed.redirect_all.Given as goal

-- the constants so far
abbrev pub invariant-loop-place : goal.invariant-loop-place
invariant-loop-place l = record {
  half : IsHalfway l.pool l.texts l.place l.now;
  state : IsState l.pool l.texts l.known;
}
