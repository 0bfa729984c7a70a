use Rattle.std.proofs.Common.{take}
use Rattle.dj_early_rules.specs.trusted.Floats.{HasFloating}
use Rattle.dj_early_rules.proofs.judged.has_floating.Given as goal

-- none so far
abbrev pub invariant-loop-ty : goal.invariant-loop-ty
invariant-loop-ty l = HasFloating (take l.ty-index l.params) → ⊥
