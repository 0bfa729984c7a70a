-- Tables of what constants name and make, descriptors by index, and classes and arrays that are settled, by plain values.
use Rattle.std.proofs.Common.{◌≡◌, ℕ, zero, suc, ◌<◌, List, [], ◌∷◌, Some, None, Less, Equal, Greater, false, slice_get, refl, sym, ap, ◌∙◌, codes, arith, inl, inr}
use Rattle.std.specs.List.Sorted.{IsStrictlySortedBy}
use Rattle.std.proofs.lemmas.Bool.{false≢true, true≢false}
use Rattle.std.proofs.lemmas.Option.{none-some, same_Some}
use Rattle.dj_names.specs.declared.descriptor.Base.TheVariants as bases
use Rattle.dj_names.specs.declared.descriptor.Desc.{Desc}
use Rattle.dj_names.specs.declared.descriptor.Desc.TheVariants as descs
use Rattle.dj_names.specs.declared.descriptor.Ty.{Ty}
use Rattle.dj_names.specs.trusted.DescReading.{dims_read, name_read, class_read, of_read, type_read, params_read, field_read, return_read, method_read, desc_read}
use Rattle.dj_names.specs.trusted.Descriptors.{desc_text}
use Rattle.dj_names.specs.trusted.NameReading.{reads_class_name}
use Rattle.dj_names.specs.trusted.Types.{Name, same_desc, base_type}
use Rattle.dj_pool.specs.trusted.Pool.{Constant, Utf8, Class}
use Rattle.dj_model.specs.trusted.Program.{Program}
use Rattle.dj_model.specs.trusted.Program as programs
use Rattle.dj_declarations.specs.trusted.Files.{desc_in, type_in}
use Rattle.dj_class_table.specs.Tables.{name_at, class_number}
use Rattle.dj_program.specs.trusted.Naming.{named_at, named_by}
use Rattle.dj_numbering.specs.Typed.{Typed, begins_array}
use Rattle.dj_image.specs.Sources.{class_of_source}
use Rattle.dj_image.specs.Imaged.{Imaged}
use Rattle.dj_image.specs.Operands.{named_class, made_class}
use Rattle.dj_image.specs.Parts.{IsDescAt, FitClasses}
use Rattle.dj_image.specs.Tables.{AreClosed, IsNamedTable, IsMadeTable}
use Rattle.dj_image.specs.Texts.{RiseStrictly}
use Rattle.dj_image.specs.Numbering.{AreSettled}
use Rattle.dj_image.proofs.Members.{member_first, member_none, member_cases}
use Rattle.dj_image.proofs.TypeFacts.{other_text, a_arrays, b_arrays}

abbrev class_of : Name → programs.Class
class_of name = record {
  name = name;
  flags = 0;
  superclass = None;
  interfaces = [];
  unnamed_fields = 0;
  fields = [];
  methods = [];
}

-- A is number 0, and the arrays of it 1
abbrev image : Imaged
image = record { sources = record { class = class_of (codes "A"); pool = []; codes = []; values = [] } ∷ []; prefix = []; arrays = a_arrays 1 ∷ []; texts = [] }

-- ---- tables

-- 2 the class A
abbrev pool : List Constant
pool = Utf8 (codes "A") ∷ Class 1 ∷ []

named_each : (index : ℕ) → index < 3 → slice_get (None ∷ None ∷ Some 0 ∷ []) index ≡ Some (named_class image (named_at pool index))
unfolding class_of_source named_by desc_in type_in dims_read name_read class_read of_read type_read params_read field_read return_read method_read desc_read reads_class_name
named_each zero lt = refl
named_each (suc zero) lt = refl
named_each (suc (suc zero)) lt = refl
named_each (suc (suc (suc k))) lt = absurd (omega (arith, lt))

named : IsNamedTable image pool (None ∷ None ∷ Some 0 ∷ [])
named = record { count = refl; each = named_each }

made_each : (index : ℕ) → index < 3 → slice_get (None ∷ None ∷ Some 1 ∷ []) index ≡ Some (made_class image (named_at pool index))
unfolding class_of_source named_by desc_in type_in dims_read name_read class_read of_read type_read params_read field_read return_read method_read desc_read reads_class_name
made_each zero lt = refl
made_each (suc zero) lt = refl
made_each (suc (suc zero)) lt = refl
made_each (suc (suc (suc k))) lt = absurd (omega (arith, lt))

made : IsMadeTable image pool (None ∷ None ∷ Some 1 ∷ [])
made = record { count = refl; each = made_each }

-- what is made isn't what is named, the first place is that of no constant, and each index has one
class_made : IsMadeTable image pool (None ∷ None ∷ Some 0 ∷ []) → ⊥
class_made table =
    let e : Some 0 ≡ Some 1 = same_Some (Some 0) (Some 1) (table.each 2 (omega arith) ∙ sym (made_each 2 (omega arith))) in
    let number : 0 ≡ 1 = same_Some 0 1 e in
    omega (arith, number)

named_too_early : IsNamedTable image pool (None ∷ Some 0 ∷ None ∷ []) → ⊥
named_too_early table = none-some 0 (sym (same_Some (Some 0) None (table.each 1 (omega arith) ∙ sym (named_each 1 (omega arith)))))

too_short : IsNamedTable image pool (None ∷ None ∷ []) → ⊥
too_short table = let e : 2 ≡ 3 = table.count in omega (arith, e)

-- ---- descriptors

abbrev texts : List Constant
texts = Utf8 (codes "()V") ∷ Utf8 (codes "(") ∷ []

described : IsDescAt texts 1 (descs.Method [] None)
unfolding desc_in dims_read name_read class_read of_read type_read params_read field_read return_read method_read desc_read reads_class_name
described = record { spelled = record { text_is = refl; valid = (tt, tt, omega arith) }; is = refl }

other_described : IsDescAt texts 1 (descs.Field (base_type bases.Int)) → ⊥
unfolding desc_in dims_read name_read class_read of_read type_read params_read field_read return_read method_read desc_read reads_class_name
other_described reported = true≢false (ap (λ (d : Desc). same_desc d (descs.Method [] None)) reported.is)

-- of a text that is no descriptor none, nor where there is no text
none_described : (desc : Desc) → IsDescAt texts 2 desc → ⊥
unfolding desc_in dims_read name_read class_read of_read type_read params_read field_read return_read method_read desc_read reads_class_name
none_described desc reported = other_text (codes "(") (desc_text (desc_in (codes "("))) refl refl reported.spelled.text_is

no_text : (desc : Desc) → IsDescAt texts 0 desc → ⊥
unfolding desc_in dims_read name_read class_read of_read type_read params_read field_read return_read method_read desc_read reads_class_name
no_text desc reported = other_text [] (desc_text (desc_in [])) refl refl reported.spelled.text_is

-- ---- one part for each class

none_fit : FitClasses [] []
none_fit = tt

part_left_out : FitClasses (class_of (codes "A") ∷ []) [] → ⊥
part_left_out fit = fit

-- ---- classes and arrays that are settled

abbrev typed : Program → Typed
typed program = record { program = program; prefix = []; arrays = a_arrays 1 ∷ [] }

abbrev one : Program
one = class_of (codes "A") ∷ []

one_number : (k : ℕ) (name : Name) → name_at one k ≡ Some name → class_number one name ≡ Some k
one_number zero name at = ap (class_number one) (sym (same_Some (codes "A") name at))
one_number (suc k) name at = absurd (none-some name at)

one_plain : (k : ℕ) (name : Name) → name_at one k ≡ Some name → begins_array name ≡ false
one_plain zero name at = ap begins_array (sym (same_Some (codes "A") name at))
one_plain (suc k) name at = absurd (none-some name at)

one_closed : AreClosed (a_arrays 1 ∷ [])
one_closed ty there deep = elim (member_cases (a_arrays 1) [] ty there) [
  | inl is ↦ let dims : 1 ≡ ty.dims = ap (λ (t : Ty). t.dims) is in absurd (omega (arith, deep, dims))
  | inr later ↦ absurd (member_none ty later)
]

settled : AreSettled (typed one)
settled = record { differ = one_number; plain = one_plain; arrays = record { each = refl; rise = refl }; closed = one_closed }

-- not where two classes have one name, where a name begins as a descriptor does, and where the class of an array isn't there
one_name : AreSettled (typed (class_of (codes "A") ∷ class_of (codes "A") ∷ [])) → ⊥
one_name settled =
    let e : Some 0 ≡ Some 1 = settled.differ 1 (codes "A") refl in
    let number : 0 ≡ 1 = same_Some 0 1 e in
    omega (arith, number)

not_plain : AreSettled (typed (class_of (codes "A") ∷ class_of (codes "[B") ∷ [])) → ⊥
not_plain settled = true≢false (settled.plain 1 (codes "[B") refl)

-- and not where an array of arrays has a number and what it holds has none
not_closed : AreClosed (a_arrays 2 ∷ []) → ⊥
not_closed closed = elim (member_cases (a_arrays 2) [] (a_arrays 1) (closed (a_arrays 2) (member_first (a_arrays 2) []) (omega arith))) [
  | inl is ↦ let dims : 2 ≡ 1 = ap (λ (t : Ty). t.dims) is in omega (arith, dims)
  | inr later ↦ member_none (a_arrays 1) later
]

not_there : AreSettled (record (typed one) { arrays = b_arrays 1 ∷ [] }) → ⊥
not_there settled = false≢true settled.arrays.each

-- ---- texts that rise

texts_rise : RiseStrictly [] × RiseStrictly ((1 ∷ []) ∷ (1 ∷ 2 ∷ []) ∷ (2 ∷ []) ∷ [])
unfolding IsStrictlySortedBy
texts_rise = (tt, ((refl, (refl, tt)), ((refl, tt), (tt, tt))))

texts_fall : RiseStrictly ((2 ∷ []) ∷ (1 ∷ 2 ∷ []) ∷ []) → ⊥
unfolding IsStrictlySortedBy
texts_fall rise = let e : Greater ≡ Less = rise.0.0 in absurd cc

text_twice : RiseStrictly ((1 ∷ []) ∷ (1 ∷ []) ∷ []) → ⊥
unfolding IsStrictlySortedBy
text_twice rise = let e : Equal ≡ Less = rise.0.0 in absurd cc
