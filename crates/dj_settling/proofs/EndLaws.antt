-- The classes of exceptions that nothing catches, by their numbers.
use Rattle.std.proofs.Common.{◌≡◌, ◌<◌, ◌≤◌, ℕ, zero, suc, ◌-◌, Bool, true, false, List, [], ◌∷◌, ◌++◌, length, map, Option, Some, None, IsTrue, nat_eq, if◌then◌else◌, refl, sym, ap, ◌∙◌, inl, inr, arith}
use Rattle.std.specs.Prelude.{slice_get, unwrap_or, nat_le}
use Rattle.std.proofs.lemmas.Bool.{and_parts}
use Rattle.std.proofs.lemmas.Bool.Decides.{nat_tests}
use Rattle.std.proofs.lemmas.Bool.{cases_lt, eq-eqb, ne_eqb}
use Rattle.std.proofs.lemmas.List.{length-append, length-map}
use Rattle.dj_names.specs.declared.run.Charge.{Charge}
use Rattle.dj_names.specs.declared.descriptor.Ty.{Ty}
use Rattle.dj_names.specs.trusted.Types.{Name, class_type}
use Rattle.dj_names.specs.trusted.Descriptors.{type_text}
use Rattle.dj_model.specs.trusted.Program.{Program, Class}
use Rattle.dj_model.specs.trusted.Linking.{member_class}
use Rattle.dj_natives.specs.Known.{IsClassType}
use Rattle.dj_library_types.specs.Numbered.{SaysStop, is_number}
use Rattle.dj_class_table.specs.Tables.{name_of, name_at}
use Rattle.dj_numbering.specs.Typed.{Typed, AreArrays, is_array_of, texts_of, types_of, type_at}
use Rattle.dj_numbering.proofs.Starts.{some_there}
use Rattle.dj_numbering.proofs.Reported.{IsArray, array_there, type_there, type_of_class, known_at}
use Rattle.dj_image.specs.Imaged.{Imaged, program_of, typed_of}
use Rattle.dj_image.specs.Numbering.{AreSettled}
use Rattle.dj_unwinding.specs.Unwinding.{IsClassNumber, class_name_at}
use Rattle.dj_settling.specs.Settling.{stopping}

-- ---- names

text_of_class : (program : Program) (texts : List Name) (class : ℕ) (text : Name) → class < length program → slice_get (map name_of program ++ texts) class ≡ Some text → text ≡ unwrap_or (name_at program class) []
text_of_class [] texts class text lt e = absurd (omega (arith, lt))
text_of_class (c ∷ program) texts zero text lt e = cc
text_of_class (c ∷ program) texts (suc class) text lt e = text_of_class program texts class text (omega (arith, lt)) e

pub name_reported : (imaged : Imaged) (class : ℕ) (text : Name) → class < length (program_of imaged) → slice_get (texts_of (typed_of imaged)) class ≡ Some text → text ≡ class_name_at (program_of imaged) class
name_reported imaged class text lt e = text_of_class (program_of imaged) (map type_text imaged.arrays) class text lt e

-- the classes are among those that have numbers
types_longer : (typed : Typed) → length typed.program ≤ length (types_of typed)
types_longer typed =
    let classes = length-map typed.program (λ (c : Class). class_type (name_of c)) in
    let all = length-append (map (λ (c : Class). class_type (name_of c)) typed.program) typed.arrays in
    omega (arith, classes, all)

pub type_within : (imaged : Imaged) (class : ℕ) → class < length (program_of imaged) → class < length (types_of (typed_of imaged))
type_within imaged class lt = let longer = types_longer (typed_of imaged) in omega (arith, lt, longer)

-- the class by its type
pub named_by_type : (imaged : Imaged) (class : ℕ) → class < length (program_of imaged) → class_name_at (program_of imaged) class ≡ member_class imaged.prefix (type_at (typed_of imaged) class)
named_by_type imaged class lt = sym (ap (member_class imaged.prefix) (type_of_class (program_of imaged) imaged.arrays class lt))

-- ---- what has no dimensions is a class

one_at_least : (dims : ℕ) → IsTrue (nat_le 1 dims) → (dims ≡ 0 → ⊥)
one_at_least dims le none = grind (arith, nat_tests)

no_array : (typed : Typed) (class : ℕ) → AreArrays typed.program typed.arrays → length typed.program ≤ class → class < length (types_of typed) → (type_at typed class).dims ≡ 0 → ⊥
no_array typed class arrays le lt plain =
    let array : IsArray typed class (class - length typed.program) = array_there typed class (length typed.program) (class - length typed.program) refl lt le refl in
    let ty : (ty : Ty) × (slice_get typed.arrays (class - length typed.program) ≡ Some ty) = some_there typed.arrays (class - length typed.program) array.within in
    let known : IsTrue (is_array_of typed.program ty.0) = known_at typed.program typed.arrays arrays.each (class - length typed.program) ty.0 ty.1 in
    one_at_least ty.0.dims ((and_parts (nat_le 1 ty.0.dims) _ known).0) (sym (ap (λ (t : Ty). t.dims) (type_there typed class (class - length typed.program) ty.0 array ty.1)) ∙ plain)

pub class_within : (imaged : Imaged) (class : ℕ) → AreSettled (typed_of imaged) → IsClassNumber (typed_of imaged) class → class < length (program_of imaged)
class_within imaged class settled is = elim (cases_lt class (length (program_of imaged))) [
  | inl lt ↦ lt
  | inr le ↦ absurd (no_array (typed_of imaged) class settled.arrays le is.within is.plain)
]

pub plain_type : (imaged : Imaged) (class : ℕ) → class < length (program_of imaged) → IsClassNumber (typed_of imaged) class
plain_type imaged class lt = record {
  within = type_within imaged class lt;
  plain = ap (λ (t : Ty). t.dims) (type_of_class (program_of imaged) imaged.arrays class lt);
}

-- its type is that of a class
pub class_typed : (imaged : Imaged) (class : ℕ) → AreSettled (typed_of imaged) → IsClassNumber (typed_of imaged) class → IsClassType (type_at (typed_of imaged) class)
class_typed imaged class settled is =
    (unwrap_or (name_at (program_of imaged) class) [], type_of_class (program_of imaged) imaged.arrays class (class_within imaged class settled is))

-- ---- the object that stops a run

module _ (imaged : Imaged) (exceeded : Option Charge) (class : ℕ) (stop : Option ℕ) (lt : class < length (program_of imaged))
    (says : SaysStop (types_of (typed_of imaged)) imaged.prefix stop) where
  reported : stopping imaged exceeded class ≡ (if is_number stop class then exceeded else None)
  reported = ap (λ (b : Bool). if b then exceeded else None) (says class (type_within imaged class lt))

pub is_stopping : (imaged : Imaged) (exceeded : Option Charge) (class stop : ℕ) → class < length (program_of imaged) → SaysStop (types_of (typed_of imaged)) imaged.prefix (Some stop)
    → stop ≡ class → exceeded ≡ stopping imaged exceeded class
is_stopping imaged exceeded class stop lt says same =
    let test : nat_eq stop class ≡ true = eq-eqb stop class same in
    sym (reported imaged exceeded class (Some stop) lt says ∙ ap (λ (b : Bool). if b then exceeded else None) test)

pub not_stopping : (imaged : Imaged) (exceeded : Option Charge) (class stop : ℕ) → class < length (program_of imaged) → SaysStop (types_of (typed_of imaged)) imaged.prefix (Some stop)
    → (stop ≡ class → ⊥) → None ≡ stopping imaged exceeded class
not_stopping imaged exceeded class stop lt says other =
    let test : nat_eq stop class ≡ false = ne_eqb stop class other in
    sym (reported imaged exceeded class (Some stop) lt says ∙ ap (λ (b : Bool). if b then exceeded else None) test)

pub never_stopping : (imaged : Imaged) (exceeded : Option Charge) (class : ℕ) → class < length (program_of imaged) → SaysStop (types_of (typed_of imaged)) imaged.prefix None
    → None ≡ stopping imaged exceeded class
never_stopping imaged exceeded class lt says = sym (reported imaged exceeded class None lt says)
