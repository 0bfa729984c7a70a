use Rattle.std.proofs.Common.{take}
use Rattle.dj_pool.specs.Views.{constant_of}
use Rattle.dj_early_rules.specs.trusted.Members.{IsFloatConstant}
use Rattle.dj_early_rules.proofs.Anys.{IsAny}
use Rattle.dj_early_rules.proofs.classes.has_float_constant.Given as goal

-- none so far
abbrev pub invariant-loop-entry : goal.invariant-loop-entry
invariant-loop-entry l = IsAny (λ e. IsFloatConstant l.view.pool (constant_of e)) (take l.entry-index l.entry-items) → ⊥
