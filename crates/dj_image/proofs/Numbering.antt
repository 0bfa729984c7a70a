-- What is known of classes and arrays by their numbers, as types.
use Rattle.std.proofs.Common.{◌≡◌, ℕ, zero, suc, ◌+◌, ◌-◌, ◌<◌, ◌≤◌, ◌&&◌, Bool, true, false, cond, List, [], ◌∷◌, ◌++◌, map, length, Option, Some, None, unwrap_or, option_and_then, refl, sym, ap, subst, ◌∙◌, arith, inl, inr, Contains, IsTrue, IfSome}
use Rattle.std.specs.Prelude.{if◌then◌else◌, nat_eq, nat_le, slice_get}
use Rattle.std.specs.Option.{option_map}
use Rattle.std.proofs.lemmas.Bool.{and_parts, both_ways, ne_eqb, eq-eqb, false≢true}
use Rattle.std.proofs.lemmas.Bool.Decides.{nat_tests}
use Rattle.std.proofs.lemmas.List.{length-map, length-append}
use Rattle.std.proofs.lemmas.Option.{slice_get-map, none-some, same_Some}
use Rattle.dj_names.specs.declared.descriptor.Base.TheVariants as bases
use Rattle.dj_names.specs.declared.descriptor.Of.{Of}
use Rattle.dj_names.specs.declared.descriptor.Of.TheVariants as ofs
use Rattle.dj_names.specs.declared.descriptor.Ty.{Ty}
use Rattle.dj_names.specs.trusted.Descriptors.{of_text, type_text}
use Rattle.dj_names.specs.trusted.Library.{stop_class}
use Rattle.dj_names.specs.trusted.Types.{Name, same_name, class_type, base_array, component_type, same_of, same_type}
use Rattle.dj_model.specs.trusted.Natives.{class_name}
use Rattle.dj_model.specs.trusted.Program.{Program, Class, class_at, superclass_of}
use Rattle.dj_model.specs.trusted.Types.{Prefix, string_name}
use Rattle.dj_class_table.specs.Tables.{name_of, name_at, class_number}
use Rattle.dj_class_table.proofs.Numbered.{class_at-at, class_number-none, class_number-within, name_at-number}
use Rattle.dj_class_table.proofs.Orders.{names_from_same, same_from_names}
use Rattle.dj_library_types.specs.Numbered as numbered
use Rattle.dj_library_types.specs.Numbered.{IsNumberOf, superclass_type, holds_references, component_of, is_number, SaysStop, ArePlain, HasNumber, HaveComponents}
use Rattle.dj_numbering.specs.Typed.{Typed, texts_of, types_of, type_at, place_of_text, text_number, text_of_type, type_number, begins_array, is_known_of, AreArrays, has_references, super_at, component_at, string_at, chars_at, stop_under, stop_at}
use Rattle.dj_numbering.proofs.Numbers.{number_of_class, number_of_text, number_of_none}
use Rattle.dj_numbering.proofs.Reported.{types_among, known_at}
use Rattle.dj_image.specs.Numbering.{AreSettled}
use Rattle.dj_image.proofs.Members.{member_first, member_later, member_none, member_cases}
use Rattle.dj_image.proofs.RowFacts.{type_once}

-- ---- what stands at a number

class_there : (program : Program) (arrays : List Ty) (k : ℕ) (name : Name) → name_at program k ≡ Some name → slice_get (types_among program arrays) k ≡ Some (class_type name)
class_there [] arrays k name e = absurd (none-some name e)
class_there (c ∷ program) arrays zero name e = ap (λ (n : Name). Some (class_type n)) (same_Some c.name name e)
class_there (c ∷ program) arrays (suc k) name e = class_there program arrays k name e

array_there : (program : Program) (arrays : List Ty) (j : ℕ) (ty : Ty) → slice_get arrays j ≡ Some ty → slice_get (types_among program arrays) (length program + j) ≡ Some ty
array_there [] arrays j ty e = let plus : 0 + j ≡ j = omega arith in ap (λ (n : ℕ). slice_get arrays n) plus ∙ e
array_there (c ∷ program) arrays j ty e =
    let plus : suc (length program) + j ≡ suc (length program + j) = omega arith in
    ap (λ (n : ℕ). slice_get (types_among (c ∷ program) arrays) n) plus ∙ array_there program arrays j ty e

data Stands (program : Program) (arrays : List Ty) (k : ℕ) (ty : Ty) : Type 0 where
  AClass : (name : Name) → name_at program k ≡ Some name → ty ≡ class_type name → Stands program arrays k ty
  AnArray : (j : ℕ) → k ≡ length program + j → slice_get arrays j ≡ Some ty → Stands program arrays k ty

stands : (program : Program) (arrays : List Ty) (k : ℕ) (ty : Ty) → slice_get (types_among program arrays) k ≡ Some ty → Stands program arrays k ty
stands [] arrays k ty e = AnArray k (omega arith) e
stands (c ∷ program) arrays zero ty e = AClass c.name refl (sym (same_Some (class_type c.name) ty e))
stands (c ∷ program) arrays (suc k) ty e = elim (stands program arrays k ty e) [
  | AClass name at is ↦ AClass name at is
  | AnArray j at there ↦ AnArray j (omega arith) there
]

some_there : {A : Type 0} (xs : List A) (k : ℕ) → k < length xs → (x : A) × (slice_get xs k ≡ Some x)
some_there [] k lt = absurd (omega arith)
some_there (x ∷ xs) zero lt = (x, refl)
some_there (x ∷ xs) (suc k) lt = some_there xs k (omega arith)

past : (program : Program) (k j : ℕ) → k ≡ length program + j → slice_get program k ≡ None
past [] k j e = refl
past (c ∷ program) zero j e = absurd (omega arith)
past (c ∷ program) (suc k) j e = past program k j (omega arith)

-- ---- the place of a text

place_reported : (texts : List Name) (text : Name) (k : ℕ) → place_of_text texts text ≡ Some k → slice_get texts k ≡ Some text
place_reported [] text k e = absurd (none-some k e)
place_reported (x ∷ texts) text k e = by (same_name x text) refl (place_of_text texts text) (place_reported texts text) k e where
  by : (b : Bool) → same_name x text ≡ b → (n : Option ℕ) → ((j : ℕ) → n ≡ Some j → slice_get texts j ≡ Some text)
      → (k : ℕ) → (if b then Some 0 else option_map suc n) ≡ Some k → slice_get (x ∷ texts) k ≡ Some text
  by true same n later zero f = ap Some (names_from_same x text same)
  by true same n later (suc k) f = absurd cc
  by false same None later k f = absurd cc
  by false same (Some j) later k f = subst (λ (k : ℕ). slice_get (x ∷ texts) k ≡ Some text) {x = suc j} {y = k} (cc) (later j refl)

place_there : (texts : List Name) (k : ℕ) (text : Name) → slice_get texts k ≡ Some text → place_of_text texts text ≡ None → ⊥
place_there [] k text e none = none-some text e
place_there (x ∷ texts) zero text e none =
    let same : same_name x text ≡ true = same_from_names x text (same_Some x text e) in
    none-some 0 (sym none ∙ ap (λ (b : Bool). if b then Some 0 else option_map suc (place_of_text texts text)) same)
place_there (x ∷ texts) (suc k) text e none = by (same_name x text) (place_of_text texts text) (place_there texts k text e) none where
  by : (b : Bool) (n : Option ℕ) → (n ≡ None → ⊥) → (if b then Some 0 else option_map suc n) ≡ None → ⊥
  by true n later f = absurd cc
  by false None later f = later refl
  by false (Some j) later f = absurd cc

-- ---- texts of types

array_text : (dims : ℕ) (of : Of) → 1 ≤ dims → text_of_type (record { dims = dims; of = of }) ≡ type_text (record { dims = dims; of = of })
array_text dims (ofs.Base base) some = refl
array_text dims (ofs.Class name) some =
    ap (λ (b : Bool). cond b name (type_text (record { dims = dims; of = ofs.Class name }))) (ne_eqb dims 0 (λ e. omega (arith, some, e)))

array_name : (dims : ℕ) (of : Of) → 1 ≤ dims → class_name (record { dims = dims; of = of }) ≡ type_text (record { dims = dims; of = of })
array_name dims (ofs.Base base) some =
    ap (λ (b : Bool). cond b [] (type_text (record { dims = dims; of = ofs.Base base }))) (ne_eqb dims 0 (λ e. omega (arith, some, e)))
array_name dims (ofs.Class name) some =
    ap (λ (b : Bool). cond b name (type_text (record { dims = dims; of = ofs.Class name }))) (ne_eqb dims 0 (λ e. omega (arith, some, e)))

array_begins : (dims : ℕ) (of : Of) → 1 ≤ dims → begins_array (type_text (record { dims = dims; of = of })) ≡ true
array_begins zero of some = absurd (omega arith)
array_begins (suc dims) of some = refl

-- a class and an array differ
not_class : (ty : Ty) (name : Name) → 1 ≤ ty.dims → ty ≡ class_type name → ⊥
not_class ty name some e = let dims : ty.dims ≡ 0 = ap (λ (t : Ty). t.dims) e in omega arith

same_class : (a b : Name) → class_type a ≡ class_type b → a ≡ b
same_class a b e = let of : ofs.Class a ≡ ofs.Class b = ap (λ (t : Ty). t.of) e in cc

-- ---- arrays

some_dims : (program : Program) (arrays : List Ty) → AreArrays program arrays → (j : ℕ) (ty : Ty) → slice_get arrays j ≡ Some ty → 1 ≤ ty.dims
some_dims program arrays are j ty e =
    let parts = and_parts (nat_le 1 ty.dims) (nat_le ty.dims 255 && is_known_of program ty.of) (known_at program arrays are.each j ty e) in
    at_least ty.dims parts.0 where
      at_least : (dims : ℕ) → IsTrue (nat_le 1 dims) → 1 ≤ dims
      at_least dims t = grind (arith, nat_tests)

known_of : (program : Program) (arrays : List Ty) → AreArrays program arrays → (j : ℕ) (ty : Ty) → slice_get arrays j ≡ Some ty → IsTrue (is_known_of program ty.of)
known_of program arrays are j ty e =
    let parts = and_parts (nat_le 1 ty.dims) (nat_le ty.dims 255 && is_known_of program ty.of) (known_at program arrays are.each j ty e) in
    (and_parts (nat_le ty.dims 255) (is_known_of program ty.of) parts.1).1

same_begins : (name : Name) → numbered.begins_array name ≡ begins_array name
same_begins [] = refl
same_begins (b ∷ more) = refl

got_listed : (arrays : List Ty) (j : ℕ) (ty : Ty) → slice_get arrays j ≡ Some ty → Contains arrays ty
got_listed [] j ty e = absurd (none-some ty e)
got_listed (a ∷ arrays) zero ty e = subst (Contains (a ∷ arrays)) (same_Some a ty e) (member_first a arrays)
got_listed (a ∷ arrays) (suc j) ty e = member_later a arrays ty (got_listed arrays j ty e)

module _ (typed : Typed) (settled : AreSettled typed) where
  there : (class : ℕ) → class < length (types_of typed) → (ty : Ty) × (slice_get (types_of typed) class ≡ Some ty) × Stands typed.program typed.arrays class ty
  there class lt = let found = some_there (types_of typed) class lt in (found.0, found.1, stands typed.program typed.arrays class found.0 found.1)

  type_is : (class : ℕ) (ty : Ty) → slice_get (types_of typed) class ≡ Some ty → type_at typed class ≡ ty
  type_is class ty e = ap (λ (o : Option Ty). unwrap_or o (class_type [])) e

  -- ---- numbers

  class_number_is : (name : Name) → IsNumberOf (types_of typed) (Some (class_type name)) (class_number typed.program name)
  class_number_is name = by (class_number typed.program name) refl where
    by : (o : Option ℕ) → class_number typed.program name ≡ o → IsNumberOf (types_of typed) (Some (class_type name)) o
    by (Some k) e = class_there typed.program typed.arrays k name (name_at-number typed.program name k e)
    by None e = λ k at. elim (stands typed.program typed.arrays k (class_type name) at) [
      | AClass other named is ↦ none-some k (sym e ∙ settled.differ k name (named ∙ ap Some (same_class other name (sym is))))
      | AnArray j number array ↦ not_class (class_type name) name (some_dims typed.program typed.arrays settled.arrays j (class_type name) array) refl
    ]

  no_class : (ty : Ty) → 1 ≤ ty.dims → class_number typed.program (type_text ty) ≡ None
  no_class ty some = class_number-none typed.program (type_text ty) (λ k at.
      both_ways (begins_array (type_text ty)) (settled.plain k (type_text ty) at) (array_begins ty.dims ty.of some))

  array_text_at : (ty : Ty) (j : ℕ) → slice_get (map type_text typed.arrays) j ≡ Some (type_text ty) → slice_get typed.arrays j ≡ Some ty
  array_text_at ty j e = by (slice_get typed.arrays j) (sym (slice_get-map type_text typed.arrays j) ∙ e) where
    by : (o : Option Ty) → option_map type_text o ≡ Some (type_text ty) → o ≡ Some ty
    by None f = absurd (none-some (type_text ty) f)
    by (Some a) f = ap Some (type_once a ty (same_Some (type_text a) (type_text ty) f))

  array_number_is : (ty : Ty) → 1 ≤ ty.dims → IsNumberOf (types_of typed) (Some ty) (type_number typed ty)
  array_number_is ty some =
      subst (λ (text : Name). IsNumberOf (types_of typed) (Some ty) (text_number typed text)) (sym (array_text ty.dims ty.of some))
      (by (place_of_text (map type_text typed.arrays) (type_text ty)) refl) where
        by : (o : Option ℕ) → place_of_text (map type_text typed.arrays) (type_text ty) ≡ o → IsNumberOf (types_of typed) (Some ty) (text_number typed (type_text ty))
        by (Some j) e =
            subst (IsNumberOf (types_of typed) (Some ty)) (sym (number_of_text typed.program (map type_text typed.arrays) (type_text ty) j (no_class ty some) e))
            (array_there typed.program typed.arrays j ty (array_text_at ty j (place_reported (map type_text typed.arrays) (type_text ty) j e)))
        by None e =
            subst (IsNumberOf (types_of typed) (Some ty)) (sym (number_of_none typed.program (map type_text typed.arrays) (type_text ty) (no_class ty some) e))
            (λ k at. elim (stands typed.program typed.arrays k ty at) [
              | AClass name named is ↦ not_class ty name some is
              | AnArray j number array ↦ place_there (map type_text typed.arrays) j (type_text ty) (slice_get-map type_text typed.arrays j ∙ ap (option_map type_text) array) e
            ])

  -- ---- names

  text_reported : (program : Program) (arrays : List Ty) → ((j : ℕ) (ty : Ty) → slice_get arrays j ≡ Some ty → 1 ≤ ty.dims) → (k : ℕ) (ty : Ty)
      → slice_get (types_among program arrays) k ≡ Some ty → slice_get (map name_of program ++ map type_text arrays) k ≡ Some (class_name ty)
  text_reported [] arrays some k ty e =
      slice_get-map type_text arrays k ∙ (ap (option_map type_text) e ∙ ap Some (sym (array_name ty.dims ty.of (some k ty e))))
  text_reported (c ∷ program) arrays some zero ty e = ap (λ (t : Ty). Some (class_name t)) (same_Some (class_type c.name) ty e)
  text_reported (c ∷ program) arrays some (suc k) ty e = text_reported program arrays some k ty e

  pub name_is : (class : ℕ) (text : Name) → class < length (types_of typed) → slice_get (texts_of typed) class ≡ Some text → text ≡ class_name (type_at typed class)
  name_is class text lt e =
      let found = there class lt in
      let reported = text_reported typed.program typed.arrays (some_dims typed.program typed.arrays settled.arrays) class found.0 found.1 in
      same_Some text (class_name found.0) (sym e ∙ reported) ∙ ap class_name (sym (type_is class found.0 found.1))

  -- ---- superclasses

  super_of_array : (dims : ℕ) (of : Of) → 1 ≤ dims → superclass_type typed.program (record { dims = dims; of = of }) ≡ None
  super_of_array zero of some = absurd (omega arith)
  super_of_array (suc dims) of some = refl

  super_number_is : (superclass : Option Name) → IsNumberOf (types_of typed) (option_map class_type superclass) (option_and_then (class_number typed.program) superclass)
  super_number_is None = tt
  super_number_is (Some name) = class_number_is name

  super_at_is : (class : ℕ) (ty : Ty) → Stands typed.program typed.arrays class ty → IsNumberOf (types_of typed) (superclass_type typed.program ty) (super_at typed class)
  super_at_is class ty (AClass name named is) =
      subst (λ (t : Ty). IsNumberOf (types_of typed) (superclass_type typed.program t) (super_at typed class)) (sym is)
      (subst (λ (c : Option Class). IsNumberOf (types_of typed) (option_map class_type (superclass_of c)) (super_at typed class))
      (sym (class_at-at typed.program name class (settled.differ class name named)))
      (super_number_is (superclass_of (slice_get typed.program class))))
  super_at_is class ty (AnArray j number array) =
      let none : super_at typed class ≡ None = ap (λ (c : Option Class). option_and_then (class_number typed.program) (superclass_of c)) (past typed.program class j number) in
      subst (IsNumberOf (types_of typed) (superclass_type typed.program ty)) (sym none)
      (subst (λ (o : Option Ty). IsNumberOf (types_of typed) o None) (sym (super_of_array ty.dims ty.of (some_dims typed.program typed.arrays settled.arrays j ty array))) tt)

  pub super_is : (class : ℕ) → class < length (types_of typed) → IsNumberOf (types_of typed) (superclass_type typed.program (type_at typed class)) (super_at typed class)
  super_is class lt =
      let found = there class lt in
      subst (λ (ty : Ty). IsNumberOf (types_of typed) (superclass_type typed.program ty) (super_at typed class)) (sym (type_is class found.0 found.1)) (super_at_is class found.0 found.2)

  -- ---- components

  known_class_is : (name : Name) → IsTrue (is_known_of typed.program (ofs.Class name)) → IsNumberOf (types_of typed) (Some (class_type name)) (text_number typed name)
  known_class_is name known = by (class_number typed.program name) refl known where
    by : (o : Option ℕ) → class_number typed.program name ≡ o → IsTrue (is_known_of typed.program (ofs.Class name)) → IsNumberOf (types_of typed) (Some (class_type name)) (text_number typed name)
    by None e t = absurd (false≢true (rw e at t))
    by (Some k) e t =
        subst (IsNumberOf (types_of typed) (Some (class_type name))) (sym (number_of_class typed.program (map type_text typed.arrays) name k e))
        (class_there typed.program typed.arrays k name (name_at-number typed.program name k e))

  element_is : (dims : ℕ) (of : Of) → IsTrue (is_known_of typed.program of) → has_references (record { dims = dims; of = of }) ≡ true
      → IsNumberOf (types_of typed) (Some (record { dims = dims - 1; of = of })) (type_number typed (record { dims = dims - 1; of = of }))
  element_is zero (ofs.Base base) known e = absurd cc
  element_is zero (ofs.Class name) known e = absurd cc
  element_is (suc zero) (ofs.Base base) known e = absurd cc
  element_is (suc zero) (ofs.Class name) known e = known_class_is name known
  element_is (suc (suc n)) of known e = array_number_is (record { dims = suc (suc n) - 1; of = of }) (omega arith)

  same_test : (dims : ℕ) (of : Of) → holds_references (record { dims = dims; of = of }) ≡ has_references (record { dims = dims; of = of })
  same_test dims (ofs.Base base) = refl
  same_test dims (ofs.Class name) = refl

  abbrev component_number : Bool → Ty → Option ℕ
  component_number b ty = if b then type_number typed (component_type ty) else None

  component_at_is : (ty : Ty) → (has_references ty ≡ true → IsTrue (is_known_of typed.program ty.of)) → IsNumberOf (types_of typed) (component_of ty) (component_number (has_references ty) ty)
  component_at_is ty known =
      subst (λ (b : Bool). IsNumberOf (types_of typed) (if b then Some (component_type ty) else None) (component_number (has_references ty) ty)) (sym (same_test ty.dims ty.of))
      (by (has_references ty) refl) where
        by : (b : Bool) → has_references ty ≡ b → IsNumberOf (types_of typed) (if b then Some (component_type ty) else None) (component_number b ty)
        by true e = element_is ty.dims ty.of (known e) e
        by false e = tt

  known_there : (class : ℕ) (ty : Ty) → Stands typed.program typed.arrays class ty → has_references ty ≡ true → IsTrue (is_known_of typed.program ty.of)
  known_there class ty (AClass name named is) e = let no : false ≡ true = sym (ap has_references is) ∙ e in absurd (false≢true no)
  known_there class ty (AnArray j number array) e = known_of typed.program typed.arrays settled.arrays j ty array

  pub component_is : (class : ℕ) → class < length (types_of typed) → IsNumberOf (types_of typed) (component_of (type_at typed class)) (component_at typed class)
  component_is class lt =
      let found = there class lt in
      subst (λ (ty : Ty). IsNumberOf (types_of typed) (component_of ty) (component_number (has_references ty) ty)) (sym (type_is class found.0 found.1))
      (component_at_is found.0 (known_there class found.0 found.2))

  plain_there : (class : ℕ) (ty : Ty) → Stands typed.program typed.arrays class ty → ty.dims ≡ 0 → numbered.begins_array (class_name ty) ≡ false
  plain_there class ty (AClass name named is) none =
      ap (λ (t : Ty). numbered.begins_array (class_name t)) is ∙ same_begins name ∙ settled.plain class name named
  plain_there class ty (AnArray j number array) none =
      let some = some_dims typed.program typed.arrays settled.arrays j ty array in absurd (omega (arith, some, none))

  pub names_plain : ArePlain (types_of typed)
  names_plain class lt =
      let found = there class lt in
      subst (λ (ty : Ty). ty.dims ≡ 0 → numbered.begins_array (class_name ty) ≡ false) (sym (type_is class found.0 found.1)) (plain_there class found.0 found.2)

  listed_there : (arrays : List Ty) (ty : Ty) → Contains arrays ty → (j : ℕ) × (slice_get arrays j ≡ Some ty)
  listed_there [] ty listed = absurd (member_none ty listed)
  listed_there (a ∷ arrays) ty listed = elim (member_cases a arrays ty listed) [
    | inl is ↦ (0, ap Some is)
    | inr later ↦ let found = listed_there arrays ty later in (suc found.0, found.1)
  ]

  element_there : (dims : ℕ) (of : Of) (j : ℕ) → slice_get typed.arrays j ≡ Some (record { dims = dims; of = of }) → IsTrue (is_known_of typed.program of)
      → has_references (record { dims = dims; of = of }) ≡ true → HasNumber (types_of typed) (record { dims = dims - 1; of = of })
  element_there zero (ofs.Base base) j at known e = absurd cc
  element_there zero (ofs.Class name) j at known e = absurd cc
  element_there (suc zero) (ofs.Base base) j at known e = absurd cc
  element_there (suc zero) (ofs.Class name) j at known e = by (class_number typed.program name) refl where
    by : (o : Option ℕ) → class_number typed.program name ≡ o → HasNumber (types_of typed) (class_type name)
    by None none = absurd (false≢true (rw none at known))
    by (Some k) is = record { number = k; at = class_there typed.program typed.arrays k name (name_at-number typed.program name k is) }
  element_there (suc (suc n)) of j at known e =
      let ty : Ty = record { dims = suc (suc n); of = of } in
      let found = listed_there typed.arrays (component_type ty) (settled.closed ty (got_listed typed.arrays j ty at) (omega arith)) in
      record { number = length typed.program + found.0; at = array_there typed.program typed.arrays found.0 (component_type ty) found.1 }

  components_there : (class : ℕ) (ty : Ty) → Stands typed.program typed.arrays class ty → holds_references ty ≡ true → HasNumber (types_of typed) (component_type ty)
  components_there class ty (AClass name named is) e = let none : false ≡ true = sym (ap holds_references is) ∙ e in absurd (false≢true none)
  components_there class ty (AnArray j number array) e =
      element_there ty.dims ty.of j array (known_of typed.program typed.arrays settled.arrays j ty array) (sym (same_test ty.dims ty.of) ∙ e)

  pub have_numbers : HaveComponents (types_of typed)
  have_numbers class lt =
      let found = there class lt in
      subst (λ (ty : Ty). holds_references ty ≡ true → HasNumber (types_of typed) (component_type ty)) (sym (type_is class found.0 found.1)) (components_there class found.0 found.2)

  -- ---- String, arrays of chars, and what stops a run

  pub string_is : (result : ℕ) → Some result ≡ string_at typed → slice_get (types_of typed) result ≡ Some (class_type (string_name typed.prefix))
  string_is result e = class_there typed.program typed.arrays result (string_name typed.prefix) (name_at-number typed.program (string_name typed.prefix) result (sym e))

  pub chars_is : (result : ℕ) → Some result ≡ chars_at typed → slice_get (types_of typed) result ≡ Some (base_array bases.Char)
  chars_is result e = subst (IsNumberOf (types_of typed) (Some (base_array bases.Char))) (sym e) (array_number_is (base_array bases.Char) (omega arith))

  class_stops : (o : Option ℕ) → class_number typed.program stop_class ≡ o → (k : ℕ) (name : Name) → name_at typed.program k ≡ Some name → same_name name stop_class ≡ is_number o k
  class_stops None e k name named = by (same_name name stop_class) refl where
    by : (b : Bool) → same_name name stop_class ≡ b → b ≡ false
    by true same = absurd (none-some k (sym e ∙ settled.differ k stop_class (named ∙ ap Some (names_from_same name stop_class same))))
    by false same = refl
  class_stops (Some n) e k name named = by (same_name name stop_class) refl where
    by : (b : Bool) → same_name name stop_class ≡ b → b ≡ nat_eq n k
    by true same =
        let is : n ≡ k = same_Some n k (sym e ∙ settled.differ k stop_class (named ∙ ap Some (names_from_same name stop_class same))) in
        sym (eq-eqb n k is)
    by false same = sym (ne_eqb n k (λ is.
        let other : Some name ≡ Some stop_class = sym named ∙ (ap (name_at typed.program) (sym is) ∙ name_at-number typed.program stop_class n e) in
        both_ways (same_name name stop_class) same (same_from_names name stop_class (same_Some name stop_class other))))

  array_stops : (o : Option ℕ) → class_number typed.program stop_class ≡ o → (k j : ℕ) → k ≡ length typed.program + j → false ≡ is_number o k
  array_stops None e k j number = refl
  array_stops (Some n) e k j number = sym (ne_eqb n k (λ is. let lt = class_number-within typed.program stop_class n e in omega (arith, lt, is, number)))

  no_array_stops : (dims : ℕ) (of : Of) → 1 ≤ dims → same_type (record { dims = dims; of = of }) (class_type stop_class) ≡ false
  no_array_stops dims of some = ap (λ (b : Bool). b && same_of of (ofs.Class stop_class)) (ne_eqb dims 0 (λ e. omega (arith, some, e)))

  stops_at : (o : Option ℕ) → class_number typed.program stop_class ≡ o → (k : ℕ) (ty : Ty) → Stands typed.program typed.arrays k ty → same_type ty (class_type stop_class) ≡ is_number o k
  stops_at o e k ty (AClass name named is) = ap (λ (t : Ty). same_type t (class_type stop_class)) is ∙ class_stops o e k name named
  stops_at o e k ty (AnArray j number array) =
      no_array_stops ty.dims ty.of (some_dims typed.program typed.arrays settled.arrays j ty array) ∙ array_stops o e k j number

  stop_says : (prefix : Prefix) → SaysStop (types_of typed) prefix (stop_under prefix typed.program)
  stop_says [] k lt = refl
  stop_says (c ∷ prefix) k lt =
      let found = there k lt in
      ap (λ (t : Ty). same_type t (class_type stop_class)) (type_is k found.0 found.1) ∙ stops_at (class_number typed.program stop_class) refl k found.0 found.2

  pub stop_alone : (result : Option ℕ) → result ≡ stop_at typed → SaysStop (types_of typed) typed.prefix result
  stop_alone result e = subst (SaysStop (types_of typed) typed.prefix) (sym e) (stop_says typed.prefix)

  class_within : (k : ℕ) → k < length typed.program → k < length (types_of typed)
  class_within k lt =
      let classes = length-map typed.program (λ (c : Class). class_type (name_of c)) in
      let all = length-append (map (λ (c : Class). class_type (name_of c)) typed.program) typed.arrays in
      omega arith

  number_there : (name : Name) (o : Option ℕ) → class_number typed.program name ≡ o → IfSome o (λ k. k < length (types_of typed))
  number_there name None e = tt
  number_there name (Some k) e = class_within k (class_number-within typed.program name k e)

  stop_under_there : (prefix : Prefix) → IfSome (stop_under prefix typed.program) (λ k. k < length (types_of typed))
  stop_under_there [] = tt
  stop_under_there (c ∷ prefix) = number_there stop_class (class_number typed.program stop_class) refl

  pub stop_there : (result : Option ℕ) → result ≡ stop_at typed → IfSome result (λ k. k < length (types_of typed))
  stop_there result e = subst (λ (o : Option ℕ). IfSome o (λ k. k < length (types_of typed))) (sym e) (stop_under_there typed.prefix)
