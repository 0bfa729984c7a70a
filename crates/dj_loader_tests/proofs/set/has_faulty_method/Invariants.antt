use Rattle.std.proofs.Common.{take}
use Rattle.dj_class.specs.Members.{member_of}
use Rattle.dj_early_rules.specs.trusted.Malformed.{IsFaultyMethod}
use Rattle.dj_early_rules.proofs.Anys.{IsAny}
use Rattle.dj_loader_tests.proofs.set.has_faulty_method.Given as goal

-- none so far
abbrev pub invariant-loop-method : goal.invariant-loop-method
invariant-loop-method l = IsAny (λ m. IsFaultyMethod l.view.pool (member_of m)) (take l.method-index l.method-items) → ⊥
