-- Whether an instruction is straight.
use Rattle.std.proofs.Common.{◌≡◌, ℕ, Bool, true, false, refl, sym, ap, subst, ◌∙◌, inl, inr}
use Rattle.std.specs.Prelude.{MatchBool, nat_eq}
use Rattle.std.proofs.lemmas.Bool.{eqb-true, eqb-false, true≢false}
use Rattle.dj_ops.specs.declared.instruction.Instr.{Instr}
use Rattle.dj_ops.specs.declared.instruction.Instr.TheVariants as instrs
use Rattle.dj_straight.specs.trusted.StraightInstrs.{is_straight_op, IsStraight}

array_op : is_straight_op 188 ≡ false
unfolding is_straight_op
array_op = refl

abbrev base_of : Instr → ℕ
base_of (instrs.Array base) = base
base_of _ = 0

array_straight : (base : ℕ) → base ≡ 8 → IsStraight (instrs.Array base)
array_straight base e = inr (ap instrs.Array e)

array_other : (base : ℕ) → (base ≡ 8 → ⊥) → IsStraight (instrs.Array base) → ⊥
array_other base other (inl s) = true≢false (sym s ∙ array_op)
array_other base other (inr e) = other (ap base_of e)

array_is : (base : ℕ) (b : Bool) → nat_eq base 8 ≡ b → MatchBool b (IsStraight (instrs.Array base)) (IsStraight (instrs.Array base) → ⊥)
array_is base true h = array_straight base (eqb-true base 8 h)
array_is base false h = array_other base (eqb-false base 8 h)

-- newarray is straight where it makes an array of bytes
pub array_says : (base : ℕ) (instr : Instr) → instr ≡ instrs.Array base → MatchBool (nat_eq base 8) (IsStraight instr) (IsStraight instr → ⊥)
array_says base instr e =
    subst (λ (i : Instr). MatchBool (nat_eq base 8) (IsStraight i) (IsStraight i → ⊥)) (sym e) (array_is base (nat_eq base 8) refl)
