use Rattle.std.proofs.Common.{take}
use Rattle.dj_class.specs.Members.{member_of}
use Rattle.dj_early_rules.specs.trusted.Malformed.{IsFaultyField}
use Rattle.dj_early_rules.proofs.Anys.{IsAny}
use Rattle.dj_early_rules.proofs.fields.has_faulty_field.Given as goal

-- none so far
abbrev pub invariant-loop-field : goal.invariant-loop-field
invariant-loop-field l = IsAny (λ f. IsFaultyField l.view.pool (member_of f)) (take l.field-index l.field-items) → ⊥
