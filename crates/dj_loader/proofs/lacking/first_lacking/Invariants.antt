use Rattle.std.proofs.Common.{ℕ, ◌<◌}
use Rattle.dj_loader.specs.Numbered.{IsLacking}
use Rattle.dj_loader.proofs.lacking.first_lacking.Given as goal

-- none so far
abbrev pub invariant-loop-class : goal.invariant-loop-class
invariant-loop-class l = (j : ℕ) → j < l.class → IsLacking l.table j → ⊥
