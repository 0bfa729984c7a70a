-- What holds of the code of class files, as the image reports the bodies of its methods.
use Rattle.std.proofs.Common.{◌≡◌, ◌<◌, ◌^◌, ℕ, true, nat_le, List, length, map, Option, Some, None, refl, sym, ap, subst, ◌∙◌, inl, inr, Bor, arith, ◌+◌, ◌≤◌}
use Rattle.std.specs.Prelude.{slice_get}
use Rattle.std.proofs.lemmas.Bool.{cases_lt}
use Rattle.std.proofs.lemmas.Bool.Decides.{nat_tests}
use Rattle.std.proofs.lemmas.List.{length-map}
use Rattle.std.proofs.lemmas.Option.{same_Some, slice_get_within}
use Rattle.dj_names.specs.declared.native.NativeId.{NativeId}
use Rattle.dj_ops.specs.declared.instruction.Instr.{Instr}
use Rattle.dj_ops.specs.declared.instruction.Instr.TheVariants as instrs
use Rattle.dj_model.specs.trusted.Program.{Abstract, Code, Body, Native, Runs}
use Rattle.dj_model.specs.trusted.Linking.{FoundMethod}
use Rattle.dj_program.specs.trusted.Codes.{code_in, range_in}
use Rattle.dj_program.specs.trusted.Naming.{instruction_in}
use Rattle.dj_program.specs.Views.{parts_of}
use Rattle.dj_program.specs.declared.code.MethodCode.{MethodCode}
use Rattle.dj_numbering.specs.Members.{all_methods}
use Rattle.dj_image.specs.Imaged.{Imaged, program_of}
use Rattle.dj_image.specs.Codes.{IsBodyAt, PooledCode, SaysBody}
use Rattle.dj_image.specs.declared.image.Body.TheVariants as variants
use Rattle.dj_unwinding.specs.Short.{AreShort}
use Rattle.dj_image_step.specs.Short.{AreBounded, IsBounded, LoadByKnown, is_known_load}

-- the body that is reported is that of each method that stands there
runs_there : (imaged : Imaged) (method : ℕ) (found other : FoundMethod) (code : Code) → slice_get (all_methods (program_of imaged)) method ≡ Some other
    → slice_get (all_methods (program_of imaged)) method ≡ Some found → found.method.body ≡ Runs code → other.method.body ≡ Runs code
runs_there imaged method found other code other_there there runs = ap (λ (f : FoundMethod). f.method.body) (same_Some other found (sym other_there ∙ there)) ∙ runs

pub bounded_abstract : (imaged : Imaged) (method : ℕ) → IsBodyAt imaged method variants.Abstract → IsBounded imaged method
bounded_abstract imaged method at found code there runs =
    absurd (subst (λ (b : Body). SaysBody imaged method b variants.Abstract) (runs_there imaged method found at.found code at.there there runs) at.says)

pub bounded_native : (imaged : Imaged) (method : ℕ) (id : NativeId) → IsBodyAt imaged method (variants.Native id) → IsBounded imaged method
bounded_native imaged method id at found code there runs =
    absurd (subst (λ (b : Body). SaysBody imaged method b (variants.Native id)) (runs_there imaged method found at.found code at.there there runs) at.says)

pub bounded_code : (imaged : Imaged) (method : ℕ) (reported : Bor MethodCode) → IsBodyAt imaged method (variants.Code reported) → (length reported.now.code.code < 2 ^ 32) × (length reported.now.code.ranges < 2 ^ 32)
    → LoadByKnown reported.now.code.code → IsBounded imaged method
unfolding code_in
bounded_code imaged method reported at few loads found code there runs =
    let own = subst (λ (b : Body). SaysBody imaged method b (variants.Code reported)) (runs_there imaged method found at.found code at.there there runs) at.says in
    let instructions : length code.instructions ≡ length reported.now.code.code = ap (λ (c : Code). length c.instructions) own.2 ∙ length-map reported.now.code.code (instruction_in own.0) in
    let ranges : length code.ranges ≡ length reported.now.code.ranges = ap (λ (c : Code). length c.ranges) own.2 ∙ length-map reported.now.code.ranges (range_in own.0) in
    record {
      short = record { instructions = omega (arith, instructions, few.0); ranges = omega (arith, ranges, few.1) };
      loads = λ number pooled op index is at.
          let same : record { pool = own.0; parts = parts_of reported.now } ≡ pooled = same_Some _ pooled (sym own.1 ∙ is) in
          loads number op index (subst (λ (c : PooledCode). slice_get c.parts.labelled.code number ≡ Some (instrs.Literal op index)) (sym same) at);
    }

-- ---- literal by literal

abbrev pub LoadSoFar : List Instr → ℕ → Type 0
LoadSoFar code count = (number op index : ℕ) → number < count → slice_get code number ≡ Some (instrs.Literal op index) → op ≤ 20

known_literal : (instr : Instr) (op index : ℕ) → is_known_load instr ≡ true → instr ≡ instrs.Literal op index → op ≤ 20
known_literal instr op index known is = let le : nat_le op 20 ≡ true = sym (ap is_known_load is) ∙ known in grind (arith, nat_tests, le)

pub one_load : (code : List Instr) (count : ℕ) (instr : Instr) → slice_get code count ≡ Some instr → is_known_load instr ≡ true → LoadSoFar code count → LoadSoFar code (count + 1)
one_load code count instr there known before number op index less at = elim (cases_lt number count) [
  | inl earlier ↦ before number op index earlier at
  | inr here ↦
      let same : number ≡ count = omega (arith, less, here) in
      known_literal instr op index known (same_Some instr (instrs.Literal op index) (sym there ∙ subst (λ (n : ℕ). slice_get code n ≡ Some (instrs.Literal op index)) same at))
]

-- ---- method by method

abbrev pub AreBoundedBelow : Imaged → ℕ → Type 0
AreBoundedBelow imaged count = (method : ℕ) → method < count → IsBounded imaged method

pub none_below : (imaged : Imaged) → AreBoundedBelow imaged 0
none_below imaged method less = absurd (omega (arith, less))

pub one_more : (imaged : Imaged) (count : ℕ) → AreBoundedBelow imaged count → IsBounded imaged count → AreBoundedBelow imaged (count + 1)
one_more imaged count below here method less = elim (cases_lt method count) [
  | inl before ↦ below method before
  | inr after ↦ subst (IsBounded imaged) (let same : count ≡ method = omega (arith, less, after) in same) here
]

pub all_bounded : (imaged : Imaged) (count : ℕ) → AreBoundedBelow imaged count → length (all_methods (program_of imaged)) ≤ count → AreBounded imaged
all_bounded imaged count below all method found code there runs =
    let within = slice_get_within (all_methods (program_of imaged)) method found there in
    below method (omega (arith, within, all)) found code there runs

-- ---- what is kept

pub are_short : (imaged : Imaged) → AreBounded imaged → AreShort imaged
are_short imaged bounded method found code there runs = (bounded method found code there runs).short
