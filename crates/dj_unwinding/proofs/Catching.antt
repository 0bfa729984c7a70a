-- Rows of a method's code, as the image has them and as the program does.
use Rattle.std.proofs.Common.{◌≡◌, ◌<◌, ◌≤◌, ℕ, zero, suc, ◌+◌, Bool, true, false, ◌&&◌, List, [], ◌∷◌, drop, map, length, Option, Some, None, nat_eq, nat_le, nat_lt, refl, sym, ap, subst, ◌∙◌, arith}
use Rattle.std.specs.Prelude.{slice_get, option_and_then}
use Rattle.std.specs.Option.{option_map}
use Rattle.std.proofs.lemmas.Bool.{ne_eqb}
use Rattle.std.proofs.lemmas.Bool.Decides.{nat_tests}
use Rattle.std.proofs.lemmas.List.{length-map}
use Rattle.std.proofs.lemmas.Option.{none-some, same_Some, slice_get-map, slice_get_within}
use Rattle.dj_names.specs.declared.descriptor.Ty.{Ty}
use Rattle.dj_labels.specs.declared.labelled.Protected.{Protected}
use Rattle.dj_model.specs.trusted.Types.{Prefix, Declared}
use Rattle.dj_model.specs.trusted.Program.{Program, Method, Body, Abstract, Native, Runs, Code, Range, method_at, code_of, code_in as code_of_method, body_code}
use Rattle.dj_model.specs.Sound.{is_caught, IsSound}
use Rattle.dj_model.specs.trusted.Step.{catches, handler_in, handler_of}
use Rattle.dj_model.proofs.SoundFrames.{contained, sound_code, all_at}
use Rattle.dj_program.specs.trusted.Codes.{catches_in, range_in, code_in}
use Rattle.dj_program.specs.Views.{parts_of}
use Rattle.dj_program.specs.declared.code.MethodCode.{MethodCode}
use Rattle.dj_image.specs.Imaged.{Imaged, program_of}
use Rattle.dj_image.specs.Operands.{named_class}
use Rattle.dj_image.specs.Codes.{PooledCode, HasRange, IsCaughtAt}
use Rattle.dj_current_method.specs.Activations.{declared_at}
use Rattle.dj_current_method.specs.Reported.{IsCodeOf}
use Rattle.dj_unwinding.specs.HandlerRows.{IsRowOf, HasRow}
use Rattle.dj_unwinding.specs.Unwinding.{ranges_of, ranges_at, is_handling}

-- ---- rows by their places

ranges_reported : (imaged : Imaged) (method : ℕ) (row : ℕ) (r : Protected) (is : IsRowOf imaged method row r) → ranges_at imaged method ≡ map (range_in is.reported.pool) is.code.code.ranges
unfolding code_in
ranges_reported imaged method row r is = ap ranges_of is.reported.is

pub row_reported : (imaged : Imaged) (method at : ℕ) (r : Protected) (is : IsRowOf imaged method at r) → slice_get (ranges_at imaged method) at ≡ Some (range_in is.reported.pool r)
row_reported imaged method at r is =
    ap (λ (ranges : List Range). slice_get ranges at) (ranges_reported imaged method at r is)
    ∙ (slice_get-map (range_in is.reported.pool) is.code.code.ranges at ∙ ap (option_map (range_in is.reported.pool)) is.stands)

row_is : (imaged : Imaged) (method at : ℕ) (r : Protected) (is : IsRowOf imaged method at r) (range : Range) → slice_get (ranges_at imaged method) at ≡ Some range → range_in is.reported.pool r ≡ range
row_is imaged method at r is range e = same_Some (range_in is.reported.pool r) range (sym (row_reported imaged method at r is) ∙ e)

pub has_range : (imaged : Imaged) (method at : ℕ) → HasRow imaged method at → HasRange imaged method at
has_range imaged method at has = record {
  code = record { pool = has.is.reported.pool; parts = parts_of has.is.code };
  own = has.is.reported.own;
  within = slice_get_within has.is.code.code.ranges at has.row has.is.stands;
}

pub has_row : (imaged : Imaged) (method at : ℕ) (r : Protected) → IsRowOf imaged method at r → HasRow imaged method at
has_row imaged method at r is = record { row = r; is = is }

-- ---- what a row catches

pub caught_is : (imaged : Imaged) (method at : ℕ) → HasRow imaged method at → (caught : Option ℕ) → IsCaughtAt imaged method at caught → (range : Range)
    → slice_get (ranges_at imaged method) at ≡ Some range → caught ≡ option_and_then (named_class imaged) range.catches
caught_is imaged method at has caught reported range e =
    let own : PooledCode = record { pool = has.is.reported.pool; parts = parts_of has.is.code } in
    let same : reported.code ≡ own = same_Some reported.code own (sym reported.own ∙ has.is.reported.own) in
    let stands : slice_get has.is.code.code.ranges at ≡ Some reported.row = subst (λ (c : PooledCode). slice_get c.parts.labelled.ranges at ≡ Some reported.row) same reported.stands in
    let row : reported.row ≡ has.row = same_Some reported.row has.row (sym stands ∙ has.is.stands) in
    reported.is ∙ (ap (λ (c : PooledCode). option_and_then (named_class imaged) (catches_in c.pool reported.row.catch_type)) same
    ∙ (ap (λ (r : Protected). option_and_then (named_class imaged) (catches_in has.is.reported.pool r.catch_type)) row
    ∙ ap (λ (r : Range). option_and_then (named_class imaged) r.catches) (row_is imaged method at has.row has.is range e)))

-- a method with code
pub record HasBody (program : Program) (m : Declared) (code : Code) : Type 0 where
  pub method : Method
  pub there : method_at program m ≡ Some method
  pub body : method.body ≡ Runs code

pub body_of_code : (program : Program) (m : Declared) (code : Code) → code_of program m ≡ Some code → HasBody program m code
unfolding code_of
body_of_code program m code e = by (method_at program m) refl e where
  in_body : (b : Body) → body_code b ≡ Some code → b ≡ Runs code
  in_body Abstract f = absurd (none-some code f)
  in_body (Native id) f = absurd (none-some code f)
  in_body (Runs own) f = ap Runs (same_Some own code f)

  by : (o : Option Method) → method_at program m ≡ o → code_of_method o ≡ Some code → HasBody program m code
  by None is f = absurd (none-some code f)
  by (Some method) is f = record { method = method; there = is; body = in_body method.body f }

-- in a sound program each catch type names a class that is there
sound_catches : (program : Program) (prefix : Prefix) → IsSound program prefix → (m : Declared) (o : Option Code) → code_of program m ≡ o → (at : ℕ) (range : Range)
    → slice_get (ranges_of o) at ≡ Some range → is_caught program range.catches ≡ true
sound_catches program prefix sound m None is at range e = absurd (none-some range e)
sound_catches program prefix sound m (Some code) is at range e =
    let has = body_of_code program m code is in
    let code_sound = sound_code program prefix sound m has.method code has.there has.body in
    all_at (λ (r : Range). is_caught program r.catches) code.ranges range code_sound.0.caught (contained code.ranges at range e)

pub caught_known : (imaged : Imaged) → IsSound (program_of imaged) imaged.prefix → (method at : ℕ) (range : Range) → slice_get (ranges_at imaged method) at ≡ Some range
    → is_caught (program_of imaged) range.catches ≡ true
caught_known imaged sound method at range e =
    let program : Program = program_of imaged in
    sound_catches program imaged.prefix sound (declared_at program method) (code_of program (declared_at program method)) refl at range e

-- ---- which rows handle

module _ (imaged : Imaged) (method at : ℕ) (r : Protected) (is : IsRowOf imaged method at r) (class : Ty) (number : ℕ) (range : Range) (e : slice_get (ranges_at imaged method) at ≡ Some range) where
  abbrev Handles : Range → Bool
  Handles x = is_handling (program_of imaged) imaged.prefix class number x

  handles_row : (b : Bool) → b ≡ Handles (range_in is.reported.pool r) → b ≡ Handles range
  handles_row b same = same ∙ ap Handles (row_is imaged method at r is range e)

  no_le : number < r.start → nat_le r.start number ≡ false
  no_le lt = grind (arith, nat_tests)

  no_lt : r.end ≤ number → nat_lt number r.end ≡ false
  no_lt le = grind (arith, nat_tests)

  yes_le : r.start ≤ number → nat_le r.start number ≡ true
  yes_le le = grind (arith, nat_tests)

  yes_lt : number < r.end → nat_lt number r.end ≡ true
  yes_lt lt = grind (arith, nat_tests)

  neither : (a c : Bool) → false ≡ (a && false && c)
  neither true c = refl
  neither false c = refl

  pub before_row : number < r.start → false ≡ Handles range
  before_row lt = handles_row false (rw (no_le lt) refl)

  pub after_row : r.end ≤ number → false ≡ Handles range
  after_row le = handles_row false (rw (no_lt le) (neither (nat_le r.start number) (catches (program_of imaged) imaged.prefix class (catches_in is.reported.pool r.catch_type))))

  pub any_row : r.start ≤ number → number < r.end → r.catch_type ≡ 0 → true ≡ Handles range
  any_row le lt any = handles_row true (rw (yes_le le, yes_lt lt, any) refl)

  pub row_by_type : r.start ≤ number → number < r.end → (b : Bool) → b ≡ catches (program_of imaged) imaged.prefix class range.catches → b ≡ Handles range
  row_by_type le lt b caught =
      let as_reported : catches (program_of imaged) imaged.prefix class range.catches ≡ catches (program_of imaged) imaged.prefix class (catches_in is.reported.pool r.catch_type) =
      ap (λ (x : Range). catches (program_of imaged) imaged.prefix class x.catches) (sym (row_is imaged method at r is range e)) in
      handles_row b (rw (yes_le le, yes_lt lt) (caught ∙ as_reported))

  pub names_type : (r.catch_type ≡ 0 → ⊥) → range.catches ≡ None → ⊥
  names_type some none =
      let reported : catches_in is.reported.pool r.catch_type ≡ None = ap (λ (x : Range). x.catches) (row_is imaged method at r is range e) ∙ none in
      let test : nat_eq r.catch_type 0 ≡ false = ne_eqb r.catch_type 0 some in
      absurd (none-some _ (sym (rw test at reported)))

-- ---- the first row that handles

pub first_handles : (program : Program) (prefix : Prefix) (class : Ty) (number : ℕ) (ranges : List Range) (at : ℕ) (range : Range) → slice_get ranges at ≡ Some range
    → is_handling program prefix class number range ≡ true → handler_in program prefix class number (drop at ranges) ≡ Some range.handler
first_handles program prefix class number [] at range e holds = absurd (none-some range e)
first_handles program prefix class number (x ∷ ranges) zero range e holds =
    let is : x ≡ range = same_Some x range e in
    subst (λ (y : Range). handler_in program prefix class number (y ∷ ranges) ≡ Some range.handler) (sym is) (rw holds refl)
first_handles program prefix class number (x ∷ ranges) (suc at) range e holds = first_handles program prefix class number ranges at range e holds

pub first_passes : (program : Program) (prefix : Prefix) (class : Ty) (number : ℕ) (ranges : List Range) (at : ℕ) (range : Range) → slice_get ranges at ≡ Some range
    → is_handling program prefix class number range ≡ false
    → handler_in program prefix class number (drop at ranges) ≡ handler_in program prefix class number (drop (at + 1) ranges)
first_passes program prefix class number [] at range e fails = absurd (none-some range e)
first_passes program prefix class number (x ∷ ranges) zero range e fails =
    let is : x ≡ range = same_Some x range e in
    subst (λ (y : Range). handler_in program prefix class number (y ∷ ranges) ≡ handler_in program prefix class number ranges) (sym is) (rw fails refl)
first_passes program prefix class number (x ∷ ranges) (suc at) range e fails =
    let next : suc at + 1 ≡ suc (at + 1) = omega arith in
    first_passes program prefix class number ranges at range e fails ∙ ap (λ (n : ℕ). handler_in program prefix class number (drop n (x ∷ ranges))) (sym next)

-- ---- a walk over the rows

pub handler_by_ranges : (program : Program) (prefix : Prefix) (class : Ty) (number : ℕ) (o : Option Code) → handler_in program prefix class number (ranges_of o) ≡ handler_of program prefix class number o
handler_by_ranges program prefix class number None = refl
handler_by_ranges program prefix class number (Some code) = refl

pub no_code_handles : (program : Program) (prefix : Prefix) (class : Ty) (number : ℕ) (o : Option Code) → o ≡ None → None ≡ handler_of program prefix class number o
no_code_handles program prefix class number o none = sym (ap (handler_of program prefix class number) none)

-- no row before this place handles
pub record IsPast (imaged : Imaged) (method : ℕ) (class : Ty) (number at : ℕ) : Type 0 where
  pub same : handler_in (program_of imaged) imaged.prefix class number (ranges_at imaged method)
      ≡ handler_in (program_of imaged) imaged.prefix class number (drop at (ranges_at imaged method))

pub past_none : (imaged : Imaged) (method : ℕ) (class : Ty) (number : ℕ) → IsPast imaged method class number 0
past_none imaged method class number = record { same = refl }

module _ (imaged : Imaged) (method : ℕ) (class : Ty) (number at : ℕ) (r : Protected) (is : IsRowOf imaged method at r) (past : IsPast imaged method class number at) where
  abbrev Reported : Bool → Type 0
  Reported b = (range : Range) → slice_get (ranges_at imaged method) at ≡ Some range → b ≡ is_handling (program_of imaged) imaged.prefix class number range

  pub found_here : Reported true → Some r.handler ≡ handler_in (program_of imaged) imaged.prefix class number (ranges_at imaged method)
  found_here reported =
      let range : Range = range_in is.reported.pool r in
      let there : slice_get (ranges_at imaged method) at ≡ Some range = row_reported imaged method at r is in
      sym (past.same ∙ first_handles (program_of imaged) imaged.prefix class number (ranges_at imaged method) at range there (sym (reported range there)))

  pub passed_here : Reported false → IsPast imaged method class number (at + 1)
  passed_here reported =
      let range : Range = range_in is.reported.pool r in
      let there : slice_get (ranges_at imaged method) at ≡ Some range = row_reported imaged method at r is in
      record { same = past.same ∙ first_passes (program_of imaged) imaged.prefix class number (ranges_at imaged method) at range there (sym (reported range there)) }

drop_past : (ranges : List Range) (n : ℕ) → length ranges ≤ n → drop n ranges ≡ []
drop_past [] zero le = refl
drop_past [] (suc n) le = refl
drop_past (x ∷ ranges) zero le = absurd (omega (arith, le))
drop_past (x ∷ ranges) (suc n) le = drop_past ranges n (omega (arith, le))

ranges_count : (imaged : Imaged) (method : ℕ) (code : MethodCode) → IsCodeOf imaged method code → length (ranges_at imaged method) ≡ length code.code.ranges
unfolding code_in
ranges_count imaged method code reported = ap (λ (o : Option Code). length (ranges_of o)) reported.is ∙ length-map code.code.ranges (range_in reported.pool)

pub found_nowhere : (imaged : Imaged) (method : ℕ) (class : Ty) (number at : ℕ) (code : MethodCode) → IsCodeOf imaged method code → IsPast imaged method class number at → length code.code.ranges ≤ at
    → None ≡ handler_in (program_of imaged) imaged.prefix class number (ranges_at imaged method)
found_nowhere imaged method class number at code reported past le =
    let count = ranges_count imaged method code reported in
    sym (past.same ∙ ap (handler_in (program_of imaged) imaged.prefix class number) (drop_past (ranges_at imaged method) at (omega (arith, le, count))))
