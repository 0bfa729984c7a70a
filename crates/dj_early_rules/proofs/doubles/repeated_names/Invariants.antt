use Rattle.std.proofs.Common.{ℕ, List, ◌↔◌, Contains}
use Rattle.dj_early_rules.specs.Doubles.{texts_in, IsBelow, IsNameAt, IsAgainAt}
use Rattle.dj_early_rules.proofs.doubles.repeated_names.Given as goal

-- the names so far, and those that came again
abbrev pub invariant-loop-file : goal.invariant-loop-file
invariant-loop-file l = record {
  seen : (t : List ℕ) → Contains (texts_in l.seen) t ↔ IsBelow l.file-index (IsNameAt l.files t);
  twice : (t : List ℕ) → Contains (texts_in l.twice) t ↔ IsBelow l.file-index (IsAgainAt l.files t);
}
