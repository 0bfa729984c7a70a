use Rattle.std.proofs.Common.{◌≡◌, ℕ, List, get_or, sym, subst, None}
use Rattle.dj_member_effects.specs.Literals.{object_of, object_reported}
use Rattle.dj_member_effects.proofs.LiteralFacts.{none_made}
use Rattle.dj_member_effects.proofs.literals.Literals.new.Goals as goal

pub invariant_of-result : goal.invariant_of-result
invariant_of-result c = (
  λ text. subst (λ (made : List (ℕ × ℕ)). object_reported (get_or c.in_ok-vec.field-0.items text 0) ≡ object_of made text) (sym c.new.ensures.items)
      (subst (λ (objects : List ℕ). object_reported (get_or objects text 0) ≡ None) (sym (c.in_ok-vec.ensures.items_if_clones_equal (λ y e. e))) (none_made c.args.count text)),
  tt,
)
