-- Rows of short code, and the number after a caller's instruction, have 32 bits.
use Rattle.std.proofs.Common.{◌≡◌, ◌<◌, ℕ, ◌+◌, ◌^◌, List, [], ◌∷◌, length, map, Option, Some, None, refl, sym, ap, subst, ◌∙◌, inl, inr, arith}
use Rattle.std.specs.Prelude.{slice_get}
use Rattle.std.proofs.lemmas.List.{length-map}
use Rattle.std.proofs.lemmas.Option.{none-some, same_Some, slice_get_cases, slice_get_within}
use Rattle.dj_labels.specs.declared.labelled.Protected.{Protected}
use Rattle.dj_model.specs.trusted.Program.{Body, Abstract, Native, Runs, Code, Range, body_code}
use Rattle.dj_model.specs.trusted.Linking.{FoundMethod}
use Rattle.dj_model.specs.Sound.{IsProgram}
use Rattle.dj_program.specs.trusted.Codes.{code_in, range_in}
use Rattle.dj_program.specs.Views.{parts_of}
use Rattle.dj_stack.specs.Frames.{StackFrame, below_top, top_number}
use Rattle.dj_numbering.specs.Members.{all_methods}
use Rattle.dj_image.specs.Imaged.{Imaged, program_of}
use Rattle.dj_current_method.proofs.Numbers.{code_of_number}
use Rattle.dj_unwinding.specs.HandlerRows.{IsRowOf}
use Rattle.dj_unwinding.specs.Short.{AreShort, HasNumberBelow, IsShort}

body_is : (body : Body) (code : Code) → body_code body ≡ Some code → body ≡ Runs code
body_is Abstract code e = absurd (none-some code e)
body_is (Native id) code e = absurd (none-some code e)
body_is (Runs own) code e = ap Runs (same_Some own code e)

found_at : (imaged : Imaged) (method : ℕ) → method < length (all_methods (program_of imaged)) → (found : FoundMethod) × (slice_get (all_methods (program_of imaged)) method ≡ Some found)
found_at imaged method within = elim (slice_get_cases (all_methods (program_of imaged)) method).1 [
  | inl (found, less, there, same) ↦ (found, there)
  | inr (past, none) ↦ absurd (omega (arith, within, past))
]

-- a row's place has 32 bits
pub row_numbered : (imaged : Imaged) → IsProgram (program_of imaged) → AreShort imaged → (method at : ℕ) (row : Protected) → method < length (all_methods (program_of imaged)) → IsRowOf imaged method at row
    → at < 2 ^ 32
unfolding code_in
row_numbered imaged formed short method at row within is =
    let found = found_at imaged method within in
    let own : Code = code_in is.reported.pool (parts_of is.code) in
    let body : found.0.method.body ≡ Runs own = body_is found.0.method.body own (sym (code_of_number (program_of imaged) formed method found.0 found.1) ∙ is.reported.is) in
    let fits : length own.ranges < 2 ^ 32 = (short method found.0 own found.1 body).ranges in
    let count : length own.ranges ≡ length is.code.code.ranges = length-map is.code.code.ranges (range_in is.reported.pool) in
    let less : at < length is.code.code.ranges = slice_get_within is.code.code.ranges at row is.stands in
    omega (arith, fits, count, less)

-- and so has the number after that of the caller's instruction
pub number_below : (old mid : List StackFrame) → 0 < length old → (length old ≡ 1 → ⊥) → mid ≡ below_top old → HasNumberBelow old → top_number mid + 1 < 2 ^ 32
number_below [] mid some more is fits = absurd (omega (arith, some))
number_below (f ∷ []) mid some more is fits = absurd (more refl)
number_below (f ∷ (caller ∷ below)) mid some more is fits = subst (λ (frames : List StackFrame). top_number frames + 1 < 2 ^ 32) (sym is) fits
