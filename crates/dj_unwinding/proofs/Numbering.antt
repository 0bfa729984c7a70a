-- Whether a class is below the type that a catch type names, by numbers.
use Rattle.std.proofs.Common.{◌≡◌, ◌<◌, ℕ, zero, suc, Bool, true, false, ◌&&◌, List, [], ◌∷◌, ◌++◌, length, map, Option, Some, None, nat_eq, nat_lt, cond, if◌then◌else◌, refl, sym, ap, subst, ◌∙◌, inl, inr, ◌⊎◌, arith, length-append}
use Rattle.std.specs.Prelude.{slice_get, unwrap_or, option_and_then}
use Rattle.std.specs.Option.{option_map}
use Rattle.std.proofs.lemmas.Bool.{false≢true, ne_eqb, both_ways}
use Rattle.std.proofs.lemmas.Bool.Decides.{nat_tests}
use Rattle.std.proofs.lemmas.List.{length-map}
use Rattle.std.proofs.lemmas.Option.{none-some, same_Some, slice_get-map}
use Rattle.dj_names.specs.declared.descriptor.Of.{Of}
use Rattle.dj_names.specs.declared.descriptor.Of.TheVariants as ofs
use Rattle.dj_names.specs.declared.descriptor.Ty.{Ty}
use Rattle.dj_names.specs.trusted.Types.{Name, same_name, class_type}
use Rattle.dj_names.specs.trusted.Descriptors.{type_text}
use Rattle.dj_model.specs.trusted.Types.{Prefix}
use Rattle.dj_model.specs.trusted.Instructions.{Named, AClass, AField, AMethod, AnInterfaceMethod}
use Rattle.dj_model.specs.trusted.Natives.{class_name}
use Rattle.dj_model.specs.trusted.Program.{Program, Class, class_at}
use Rattle.dj_model.specs.trusted.Linking.{is_subtype, takes_arrays, is_below}
use Rattle.dj_model.specs.Sound.{is_class_of, is_caught}
use Rattle.dj_model.specs.trusted.Step.{catches}
use Rattle.dj_library_types.specs.Numbered.{begins_array, ArePlain}
use Rattle.dj_class_table.specs.Tables.{name_of, name_at, class_number}
use Rattle.dj_class_table.proofs.Numbered.{class_at-number, name_at-number}
use Rattle.dj_class_table.proofs.Orders.{names_from_same}
use Rattle.dj_numbering.specs.Typed.{Typed, texts_of, types_of, type_at, place_of_text, text_number, text_of_type, type_number, is_subtype_at}
use Rattle.dj_numbering.proofs.Numbers.{number_of_class, place_within}
use Rattle.dj_numbering.proofs.Reported.{types_among}
use Rattle.dj_image.specs.Imaged.{Imaged, typed_of, program_of}
use Rattle.dj_image.specs.Operands.{named_class}
use Rattle.dj_image.proofs.RowFacts.{type_once}
use Rattle.dj_unwinding.specs.Unwinding.{IsClassNumber}

-- ---- numbers are within

texts_count : (typed : Typed) → length (texts_of typed) ≡ length (types_of typed)
texts_count typed =
    let classes = length-map typed.program (λ (c : Class). class_type (name_of c)) in
    let names = length-map typed.program name_of in
    let arrays = length-map typed.arrays type_text in
    let types = length-append (map (λ (c : Class). class_type (name_of c)) typed.program) typed.arrays in
    let texts = length-append (map name_of typed.program) (map type_text typed.arrays) in
    omega (arith, classes, names, arrays, types, texts)

pub number_within : (typed : Typed) (text : Name) (k : ℕ) → text_number typed text ≡ Some k → k < length (types_of typed)
number_within typed text k e =
    let within = place_within (texts_of typed) text k e in
    let count = texts_count typed in
    omega (arith, within, count)

named_within : (imaged : Imaged) (named : Named) (k : ℕ) → named_class imaged named ≡ Some k → k < length (types_of (typed_of imaged))
named_within imaged (AClass ty) k e = number_within (typed_of imaged) (text_of_type ty) k e
named_within imaged (AField m) k e = number_within (typed_of imaged) (text_of_type m.class) k e
named_within imaged (AMethod m) k e = number_within (typed_of imaged) (text_of_type m.class) k e
named_within imaged (AnInterfaceMethod m) k e = number_within (typed_of imaged) (text_of_type m.class) k e
named_within imaged named k e = absurd (none-some k e)

pub caught_within : (imaged : Imaged) (named : Option Named) (k : ℕ) → Some k ≡ option_and_then (named_class imaged) named → k < length (types_of (typed_of imaged))
caught_within imaged None k e = absurd (none-some k (sym e))
caught_within imaged (Some named) k e = named_within imaged named k (sym e)

-- ---- what has the number of a text

place_reported : (texts : List Name) (text : Name) (k : ℕ) → place_of_text texts text ≡ Some k → slice_get texts k ≡ Some text
place_reported [] text k e = absurd (none-some k e)
place_reported (x ∷ texts) text k e = by (same_name x text) refl (place_of_text texts text) (place_reported texts text) k e where
  by : (b : Bool) → same_name x text ≡ b → (n : Option ℕ) → ((j : ℕ) → n ≡ Some j → slice_get texts j ≡ Some text)
      → (k : ℕ) → (if b then Some 0 else option_map suc n) ≡ Some k → slice_get (x ∷ texts) k ≡ Some text
  by true same n later zero f = ap Some (names_from_same x text same)
  by true same n later (suc k) f = absurd cc
  by false same None later k f = absurd cc
  by false same (Some j) later k f = subst (λ (k : ℕ). slice_get (x ∷ texts) k ≡ Some text) {x = suc j} {y = k} (cc) (later j refl)

-- a class of the name, or an array whose descriptor it is
typed_by : (program : Program) (arrays : List Ty) (k : ℕ) (text : Name) → slice_get (map name_of program ++ map type_text arrays) k ≡ Some text
    → (slice_get (types_among program arrays) k ≡ Some (class_type text)) ⊎ ((ty : Ty) × (slice_get (types_among program arrays) k ≡ Some ty) × (type_text ty ≡ text))
typed_by [] arrays k text e = by (slice_get arrays k) refl (sym (slice_get-map type_text arrays k) ∙ e) where
  by : (o : Option Ty) → slice_get arrays k ≡ o → option_map type_text o ≡ Some text
      → (slice_get arrays k ≡ Some (class_type text)) ⊎ ((ty : Ty) × (slice_get arrays k ≡ Some ty) × (type_text ty ≡ text))
  by None is f = absurd (none-some text f)
  by (Some ty) is f = inr (ty, is, same_Some (type_text ty) text f)
typed_by (c ∷ program) arrays zero text e = inl (ap (λ (n : Name). Some (class_type n)) (same_Some c.name text e))
typed_by (c ∷ program) arrays (suc k) text e = typed_by program arrays k text e

type_is : (typed : Typed) (k : ℕ) (ty : Ty) → slice_get (types_of typed) k ≡ Some ty → type_at typed k ≡ ty
type_is typed k ty e = ap (λ (o : Option Ty). unwrap_or o (class_type [])) e

-- ---- arrays

array_text : (n : ℕ) (of : Of) → text_of_type (record { dims = suc n; of = of }) ≡ type_text (record { dims = suc n; of = of })
array_text n (ofs.Base base) = refl
array_text n (ofs.Class name) =
    ap (λ (b : Bool). cond b name (type_text (record { dims = suc n; of = ofs.Class name }))) (ne_eqb (suc n) 0 (λ e. omega (arith, e)))

array_begins : (n : ℕ) (of : Of) → begins_array (type_text (record { dims = suc n; of = of })) ≡ true
array_begins n of = refl

array_is : (typed : Typed) → ArePlain (types_of typed) → (n : ℕ) (of : Of) (k : ℕ) → type_number typed (record { dims = suc n; of = of }) ≡ Some k
    → type_at typed k ≡ record { dims = suc n; of = of }
array_is typed plain n of k e = elim (typed_by typed.program typed.arrays k text (place_reported (texts_of typed) text k reported)) [
  | inl class ↦ let is : type_at typed k ≡ class_type text = type_is typed k (class_type text) class in
      absurd (both_ways (begins_array text) (sym (ap (λ (t : Ty). begins_array (class_name t)) is) ∙ plain k (number_within typed text k reported) (ap (λ (t : Ty). t.dims) is)) (array_begins n of))
  | inr array ↦ type_is typed k array.0 array.1 ∙ type_once array.0 ty array.2
] where
  ty : Ty
  ty = record { dims = suc n; of = of }

  text : Name
  text = type_text ty

  reported : text_number typed text ≡ Some k
  reported = ap (text_number typed) (sym (array_text n of)) ∙ e

-- ---- classes

-- a class of the program has a number
class_reported : (typed : Typed) (name : Name) → is_class_of typed.program (class_type name) ≡ true → (k : ℕ) × (type_number typed (class_type name) ≡ Some k) × (type_at typed k ≡ class_type name)
class_reported typed name known = by (class_number typed.program name) refl where
  by : (o : Option ℕ) → class_number typed.program name ≡ o → (k : ℕ) × (type_number typed (class_type name) ≡ Some k) × (type_at typed k ≡ class_type name)
  by None e =
      let none : class_at typed.program name ≡ None = class_at-number typed.program name ∙ ap (option_and_then (slice_get typed.program)) e in
      absurd (false≢true (rw none at known))
  by (Some k) e = (
    k,
    number_of_class typed.program (map type_text typed.arrays) name k e,
    class_there typed.program typed.arrays k name (name_at-number typed.program name k e),
  ) where
    class_there : (program : Program) (arrays : List Ty) (k : ℕ) (name : Name) → name_at program k ≡ Some name → unwrap_or (slice_get (types_among program arrays) k) (class_type []) ≡ class_type name
    class_there [] arrays k name e = absurd (none-some name e)
    class_there (c ∷ program) arrays zero name e = ap class_type (same_Some c.name name e)
    class_there (c ∷ program) arrays (suc k) name e = class_there program arrays k name e

-- ---- subtypes

-- what the test on numbers says of a class, and of none
abbrev pub reported_by : Typed → ℕ → Option ℕ → Bool
reported_by typed class None = false
reported_by typed class (Some k) = is_subtype_at typed class k

-- a class is below no array
no_array : (program : Program) (prefix : Prefix) (a : Ty) (n : ℕ) (of : Of) → a.dims ≡ 0 → is_subtype program prefix a (record { dims = suc n; of = of }) ≡ false
unfolding is_subtype
no_array program prefix a n of plain =
    let less : nat_lt (suc n) 0 ≡ false = grind (arith, nat_tests) in
    let equal : nat_eq 0 (suc n) ≡ false = ne_eqb 0 (suc n) (λ e. omega (arith, e)) in
    let none : (if nat_lt (suc n) 0 then takes_arrays prefix of else nat_eq 0 (suc n) && is_below program a.of of) ≡ false = rw (less, equal) refl in
    ap (λ (dims : ℕ). if nat_lt (suc n) dims then takes_arrays prefix of else nat_eq dims (suc n) && is_below program a.of of) plain ∙ none

below_reported : (typed : Typed) → ArePlain (types_of typed) → (class : ℕ) → IsClassNumber typed class → (dims : ℕ) (of : Of) → is_class_of typed.program (record { dims = dims; of = of }) ≡ true
    → (o : Option ℕ) → o ≡ type_number typed (record { dims = dims; of = of }) → reported_by typed class o ≡ is_subtype typed.program typed.prefix (type_at typed class) (record { dims = dims; of = of })
below_reported typed plain class is zero (ofs.Base base) known o e = absurd (false≢true known)
below_reported typed plain class is zero (ofs.Class name) known o e =
    let found = class_reported typed name known in
    ap (reported_by typed class) (e ∙ found.1) ∙ ap (is_subtype typed.program typed.prefix (type_at typed class)) found.2
below_reported typed plain class is (suc n) of known None e = sym (no_array typed.program typed.prefix (type_at typed class) n of is.plain)
below_reported typed plain class is (suc n) of known (Some k) e =
    ap (is_subtype typed.program typed.prefix (type_at typed class)) (array_is typed plain n of k (sym e))

pub caught_reported : (imaged : Imaged) → ArePlain (types_of (typed_of imaged)) → (class : ℕ) → IsClassNumber (typed_of imaged) class → (named : Option Named) → is_caught (program_of imaged) named ≡ true
    → (named ≡ None → ⊥) → (caught : Option ℕ) → caught ≡ option_and_then (named_class imaged) named
    → reported_by (typed_of imaged) class caught ≡ catches (program_of imaged) imaged.prefix (type_at (typed_of imaged) class) named
caught_reported imaged plain class is None known some caught e = absurd (some refl)
caught_reported imaged plain class is (Some (AClass ty)) known some caught e = below_reported (typed_of imaged) plain class is ty.dims ty.of known caught e
caught_reported imaged plain class is (Some named) known some caught e = absurd (false≢true known)
