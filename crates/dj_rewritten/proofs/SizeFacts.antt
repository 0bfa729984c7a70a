-- What doesn't fit, by plain values, each with the greatest that does.
use Rattle.std.proofs.Common.{◌≡◌, ℕ, zero, suc, ◌≤◌, ◌<◌, false, List, [], ◌∷◌, length, slice_get, Some, refl, ap, subst, arith, inl, inr}
use Rattle.std.specs.Prelude.{slice_index_or}
use Rattle.dj_ops.specs.declared.instruction.Instr.TheVariants as instrs
use Rattle.dj_ops.specs.trusted.Forms.{form_of}
use Rattle.dj_layout.specs.declared.errors.LayError.{LayError}
use Rattle.dj_layout.specs.declared.errors.LayError.TheVariants as errors
use Rattle.dj_layout.specs.trusted.Faults.{Reaches}
use Rattle.dj_layout.specs.Faults.{IsFirstPast, IsFirstFar, Refuses}
use Rattle.dj_program.specs.trusted.Codes.{CodeParts}
use Rattle.dj_groups.specs.Groups.{Allocations, ObjectBytes, Record, Kept, Group, inserted, start}
use Rattle.dj_groups.specs.Grouped.{labels_in_groups}
use Rattle.dj_rewritten.specs.TooLarge.{IsBigObject, HasBigObject, DoesNotFit}

-- 4,094 fields and the header
abbrev object_of : ℕ → List Group
object_of bytes = record { arrives = false; charge = ObjectBytes bytes ∷ Record Allocations ∷ []; own = Kept } ∷ []

big_object : HasBigObject (object_of 32768)
big_object = (_, (0, omega arith, refl), _, (0, omega arith, refl), omega arith)

object_fits : IsBigObject (ObjectBytes 32767) → ⊥
object_fits big = omega (arith, big)

call_fits : IsBigObject (Record Allocations) → ⊥
call_fits big = big

-- one `return`
abbrev pub one_return : ℕ → ℕ → CodeParts
one_return stack locals = record { max_stack = stack; max_locals = locals; labelled = record { code = instrs.Simple 177 ∷ []; ranges = [] }; frames = Some [] }

deep_stack : DoesNotFit 10 [] (one_return 65534 0)
deep_stack = inr (inl (omega arith))

-- ---- code that fits

-- the group of one instruction that pays nothing
abbrev pub plain : List Group
plain = record { arrives = false; charge = []; own = Kept } ∷ []

no_object : HasBigObject plain → ⊥
no_object (g, (k, less, e), x, (i, within, is), big) = go k less e where
  go : (k : ℕ) → k < 1 → slice_index_or plain k g ≡ g → ⊥
  go zero less e = let none : 0 ≡ length (inserted g) = ap (λ (g : Group). length (inserted g)) e in absurd (omega (arith, none, within))
  go (suc k) less e = absurd (omega (arith, less))

first_past : (number : ℕ) → IsFirstPast (instrs.Simple 177 ∷ []) number → ⊥
first_past zero h = absurd (omega (arith, h.past))
first_past (suc number) h = absurd (omega (arith, h.within))

first_far : (number : ℕ) → IsFirstFar (instrs.Simple 177 ∷ []) number → ⊥
unfolding form_of
first_far number h = go number h.first.found where
  go : (n : ℕ) → slice_get ((0, instrs.Simple 177) ∷ []) n ≡ Some h.jump → ⊥
  go zero e = let same : (0, instrs.Simple 177) ≡ h.jump = cc in h.first.lacks (subst Reaches same tt)
  go (suc n) e = absurd cc

-- the greatest stack that fits, wherever the accounter's constants are
pub stack_fits : (first stack locals : ℕ) → stack ≤ 65533 → DoesNotFit first plain (one_return stack locals) → ⊥
unfolding labels_in_groups start
stack_fits first stack locals few (inl big) = no_object big
stack_fits first stack locals few (inr (inl deep)) = absurd (omega (arith, few, deep))
stack_fits first stack locals few (inr (inr (inl rows))) = absurd (omega (arith, rows))
stack_fits first stack locals few (inr (inr (inr lacks))) = go lacks.0 lacks.1 where
  go : (e : LayError) → Refuses (record { code = instrs.Simple 177 ∷ []; ranges = [] }) e → ⊥
  go (errors.TooLong number) h = first_past number h
  go (errors.Far number) h = first_far number h
  go errors.Memory h = h
