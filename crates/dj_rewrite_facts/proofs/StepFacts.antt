-- The steps of rewriting a Code attribute.
use Rattle.std.proofs.Common.{◌≡◌, ℕ, zero, suc, false, ◌<◌, List, [], ◌∷◌, length, slice_get, Some, refl, ap, subst, arith, codes, inl, inr}
use Rattle.std.specs.Prelude.{Ok, Err, slice_index_or}
use Rattle.dj_ops.specs.declared.instruction.Instr.TheVariants as instrs
use Rattle.dj_ops.specs.trusted.Forms.{form_of}
use Rattle.dj_labels.specs.declared.labelled.Labelled.{Labelled}
use Rattle.dj_layout.specs.declared.errors.LayError.{LayError}
use Rattle.dj_layout.specs.declared.errors.LayError.TheVariants as lay_errors
use Rattle.dj_layout.specs.trusted.Faults.{Reaches}
use Rattle.dj_layout.specs.Faults.{IsFirstPast, IsFirstFar, Refuses}
use Rattle.dj_pool.specs.trusted.Pool.{Constant, Utf8}
use Rattle.dj_groups.specs.Groups.{Allocations, ObjectBytes, Record, Kept, Group, inserted, start}
use Rattle.dj_groups.specs.Grouped.{labels_in_groups}
use Rattle.dj_rewritten.specs.TooLarge.{HasBigObject, LacksRoom}
use Rattle.dj_emit.specs.declared.spelling.Grouped.{Grouped}
use Rattle.dj_rewrite_code.specs.declared.error.CodeError.TheVariants as errors
use Rattle.dj_rewrite_code.specs.Steps.{AnswersStack, AnswersGrouped, AnswersLaid, respelled}

-- ---- the operands

pub greatest_stack : AnswersStack 65533 (Ok 65535)
greatest_stack = (refl, omega arith)

pub deep_stack_refused : AnswersStack 65534 (Ok 65536) → ⊥
deep_stack_refused answer = absurd (omega (arith, answer.1))

deep_stack : AnswersStack 65534 (Err errors.TooLarge)
deep_stack = omega arith

fits_not_refused : AnswersStack 65533 (Err errors.TooLarge) → ⊥
fits_not_refused large = absurd (omega (arith, large))

stack_as_it_was : (n : ℕ) → AnswersStack n (Ok n) → ⊥
stack_as_it_was n answer = let e = answer.0 in absurd (omega (arith, e))

no_memory : (n : ℕ) → AnswersStack n (Err errors.Memory) → ⊥
no_memory n answer = answer

-- ---- code in groups

-- one `return`, which pays nothing
abbrev pub plain : List Group
plain = record { arrives = false; charge = []; own = Kept } ∷ []

abbrev pub one_return : Labelled
one_return = record { code = instrs.Simple 177 ∷ []; ranges = [] }

grouped : AnswersGrouped 4 plain one_return (Ok (record { code = one_return; start = 0 ∷ 1 ∷ []; own = 0 ∷ 1 ∷ [] }))
unfolding labels_in_groups start
grouped = record { is = record { code = refl; start = refl; own = refl; few = omega arith }; fits = (tt, tt) }

not_numbered : AnswersGrouped 4 plain one_return (Ok (record { code = one_return; start = 0 ∷ []; own = 0 ∷ 1 ∷ [] })) → ⊥
unfolding start
not_numbered has = let e : 1 ≡ 2 = ap length has.is.start in absurd (omega (arith, e))

-- an object of 32,760 bytes, and one of 8 more
abbrev object_of : ℕ → List Group
object_of bytes = record { arrives = false; charge = ObjectBytes bytes ∷ Record Allocations ∷ []; own = Kept } ∷ []

big_refused : AnswersGrouped 4 (object_of 32768) one_return (Err errors.TooLarge)
big_refused = inl (_, (0, omega arith, refl), _, (0, omega arith, refl), omega arith)

big_not_grouped : (made : Grouped) → AnswersGrouped 4 (object_of 32768) one_return (Ok made) → ⊥
big_not_grouped made has = absurd (omega (arith, has.fits.0.0))

pub no_big_object : HasBigObject plain → ⊥
no_big_object (g, (k, less, e), x, (i, within, is), big) = go k less e where
  go : (k : ℕ) → k < 1 → slice_index_or plain k g ≡ g → ⊥
  go zero less e = let none : 0 ≡ length (inserted g) = ap (λ (g : Group). length (inserted g)) e in absurd (omega (arith, none, within))
  go (suc k) less e = absurd (omega (arith, less))

plain_not_refused : AnswersGrouped 4 plain one_return (Err errors.TooLarge) → ⊥
unfolding labels_in_groups
plain_not_refused (inl big) = no_big_object big
plain_not_refused (inr rows) = absurd (omega (arith, rows))

-- ---- code as bytes

laid : AnswersLaid one_return (Ok (record { code = 177 ∷ []; starts = 0 ∷ []; table = [] }))
unfolding form_of
laid = record {
  starts = refl;
  code = refl;
  short = omega arith;
  table = refl;
  labels = record {
    starts = 0 ∷ [];
    cut = record { first = refl; each = (record { later = omega arith; within = omega arith; spelled = record { padding = []; padded = refl; offsets = tt; are = refl }; proper = refl }, tt) };
    targets = (tt, tt);
    rows = refl;
    ranges = tt;
  };
}

first_past : (number : ℕ) → IsFirstPast (instrs.Simple 177 ∷ []) number → ⊥
first_past zero h = absurd (omega (arith, h.past))
first_past (suc number) h = absurd (omega (arith, h.within))

first_far : (number : ℕ) → IsFirstFar (instrs.Simple 177 ∷ []) number → ⊥
unfolding form_of
first_far number h = go number h.first.found where
  go : (n : ℕ) → slice_get ((0, instrs.Simple 177) ∷ []) n ≡ Some h.jump → ⊥
  go zero e = let same : (0, instrs.Simple 177) ≡ h.jump = cc in h.first.lacks (subst Reaches same tt)
  go (suc n) e = absurd cc

pub has_room : LacksRoom one_return → ⊥
has_room lacks = go lacks.0 lacks.1 where
  go : (e : LayError) → Refuses one_return e → ⊥
  go (lay_errors.TooLong number) h = first_past number h
  go (lay_errors.Far number) h = first_far number h
  go lay_errors.Memory h = h

short_not_refused : AnswersLaid one_return (Err errors.TooLarge) → ⊥
short_not_refused lacks = has_room lacks

-- ---- the attribute

abbrev names : List Constant
names = Utf8 (codes "StackMapTable") ∷ Utf8 (codes "LineNumberTable") ∷ []

-- of the attributes stay stack maps, with another body; max_locals stays
respelled_map : respelled names (record { max_stack = 1; max_locals = 2; code = 0 ∷ 177 ∷ []; table = []; attributes = record { name = 2; body = 3 ∷ [] } ∷ record { name = 1; body = 4 ∷ [] } ∷ [] }) 9 (record { code = 177 ∷ []; starts = 0 ∷ []; table = [] }) (5 ∷ 6 ∷ [])
    ≡ record { max_stack = 9; max_locals = 2; code = 177 ∷ []; table = []; attributes = record { name = 1; body = 5 ∷ 6 ∷ [] } ∷ [] }
respelled_map = refl
