-- What is known of a class or an array by its number.
use Rattle.std.proofs.Common.{◌≡◌, ℕ, zero, suc, ◌+◌, ◌-◌, ◌<◌, ◌≤◌, Bool, true, false, List, [], ◌∷◌, ◌++◌, map, length, get_or, refl, sym, ap, ◌∙◌, subst, arith, Option}
use Rattle.std.specs.Prelude.{Some, None, if◌then◌else◌, slice_get, unwrap_or, IsTrue}
use Rattle.std.specs.List.{list_all}
use Rattle.std.proofs.lemmas.Bool.{and_parts, false≢true}
use Rattle.std.proofs.lemmas.List.{length-map, length-append}
use Rattle.std.proofs.lemmas.Option.{none-some, same_Some}
use Rattle.dj_names.specs.declared.descriptor.Of.{Of}
use Rattle.dj_names.specs.declared.descriptor.Of.TheVariants as ofs
use Rattle.dj_names.specs.declared.descriptor.Ty.{Ty}
use Rattle.dj_names.specs.trusted.Types.{Name, class_type, component_type}
use Rattle.dj_names.specs.trusted.Descriptors.{type_text}
use Rattle.dj_model.specs.trusted.Program.{Program, Class}
use Rattle.dj_class_table.specs.Tables.{name_of, class_number}
use Rattle.dj_class_table.proofs.Numbered.{name_at-number, class_number-within}
use Rattle.dj_resolution.specs.Linked.{class_name}
use Rattle.dj_numbering.specs.declared.shapes.ElementType.TheVariants as elements
use Rattle.dj_numbering.specs.declared.shapes.Shape.{Shape}
use Rattle.dj_numbering.specs.Typed.{Typed, types_of, type_at, type_number, has_references, text_of_type, component_at, is_known_of, is_array_of}
use Rattle.dj_numbering.specs.Shapes.{element_of, element_in, shape_type, IsElement, AreElements}
use Rattle.dj_numbering.specs.Kept.{component_in, number_if}

-- ---- types by numbers

abbrev pub types_among : Program → List Ty → List Ty
types_among program types = map (λ (c : Class). class_type (name_of c)) program ++ types

abbrev pub type_among : Program → List Ty → ℕ → Ty
type_among program types class = unwrap_or (slice_get (types_among program types) class) (class_type [])

pub type_of_class : (program : Program) (types : List Ty) (class : ℕ) → class < length program → type_among program types class ≡ class_type (class_name program class)
type_of_class [] types class lt = absurd (omega arith)
type_of_class (c ∷ program) types zero lt = refl
type_of_class (c ∷ program) types (suc class) lt = type_of_class program types class (omega arith)

type_of_array : (program : Program) (types : List Ty) (k : ℕ) (ty : Ty) → slice_get types k ≡ Some ty → type_among program types (length program + k) ≡ ty
type_of_array [] types k ty e =
    let plus : 0 + k ≡ k = omega arith in
    ap (λ (n : ℕ). unwrap_or (slice_get types n) (class_type [])) plus ∙ ap (λ (t : Option Ty). unwrap_or t (class_type [])) e
type_of_array (c ∷ program) types k ty e =
    let plus : suc (length program) + k ≡ suc (length program + k) = omega arith in
    ap (λ (n : ℕ). type_among (c ∷ program) types n) plus ∙ type_of_array program types k ty e

-- ---- an array by its number

-- of what is kept of each array, that of one
kept_of : {A B : Type 0} (f : A → B) (all : List A) (items : List B) → items ≡ map f all → (k : ℕ) → k < length all → (x : B) → x ≡ get_or items k x → (a : A) × (slice_get all k ≡ Some a) × (x ≡ f a)
kept_of f [] items is k lt x reported = absurd (omega arith)
kept_of {A} {B} f (a ∷ all) items is zero lt x reported = (a, refl, reported ∙ ap (λ (xs : List B). get_or xs 0 x) is)
kept_of {A} {B} f (a ∷ all) items is (suc k) lt x reported =
    kept_of f all (map f all) refl k (omega arith) x (reported ∙ ap (λ (xs : List B). get_or xs (suc k) x) is)

pub record IsArray (typed : Typed) (class k : ℕ) : Type 0 where
  pub number : class ≡ length typed.program + k
  pub within : k < length typed.arrays

pub array_there : (typed : Typed) (class count k : ℕ) → count ≡ length typed.program → class < length (types_of typed) → count ≤ class → k ≡ class - count → IsArray typed class k
array_there typed class count k is lt le at =
    let classes = length-map typed.program (λ (c : Class). class_type (name_of c)) in
    let all = length-append (map (λ (c : Class). class_type (name_of c)) typed.program) typed.arrays in
    record { number = omega arith; within = omega arith }

pub type_there : (typed : Typed) (class k : ℕ) (ty : Ty) → IsArray typed class k → slice_get typed.arrays k ≡ Some ty → type_at typed class ≡ ty
type_there typed class k ty array e = ap (type_at typed) array.number ∙ type_of_array typed.program typed.arrays k ty e

-- ---- components

component_reported : (typed : Typed) (ty : Ty) → component_in typed.program (map type_text typed.arrays) ty ≡ (if has_references ty then type_number typed (component_type ty) else None)
component_reported typed ty = by (has_references ty) where
  by : (b : Bool) → number_if typed.program (map type_text typed.arrays) (if b then Some (text_of_type (component_type ty)) else None) ≡ (if b then type_number typed (component_type ty) else None)
  by true = refl
  by false = refl

pub component_of_array : (typed : Typed) (components : List (Option ℕ)) → components ≡ map (component_in typed.program (map type_text typed.arrays)) typed.arrays
    → (class count k : ℕ) → count ≡ length typed.program → class < length (types_of typed) → count ≤ class → k ≡ class - count
    → (reported : Option ℕ) → reported ≡ get_or components k reported → reported ≡ component_at typed class
component_of_array typed components are class count k is lt le at reported read =
    let array = array_there typed class count k is lt le at in
    let found = kept_of (component_in typed.program (map type_text typed.arrays)) typed.arrays components are k array.within reported read in
    found.2 ∙ component_reported typed found.0
    ∙ ap (λ (ty : Ty). if has_references ty then type_number typed (component_type ty) else None) (sym (type_there typed class k found.0 array found.1))

pub component_of_class : (typed : Typed) (class count : ℕ) → count ≡ length typed.program → (count ≤ class → ⊥) → None ≡ component_at typed class
component_of_class typed class count is lt =
    sym (ap (λ (ty : Ty). if has_references ty then type_number typed (component_type ty) else None) (type_of_class typed.program typed.arrays class (omega arith)))

-- ---- shapes

pub element_reported : (program : Program) (of : Of) → IsTrue (is_known_of program of) → (element_of program (element_in program of) ≡ of) × IsElement program (element_in program of)
element_reported program (ofs.Base base) known = (refl, tt)
element_reported program (ofs.Class name) known = by (class_number program name) refl known where
  by : (number : Option ℕ) → class_number program name ≡ number → IsTrue (is_known_of program (ofs.Class name))
      → (ofs.Class (class_name program (unwrap_or number 0)) ≡ ofs.Class name) × (unwrap_or number 0 < length program)
  by None is known = absurd (false≢true (rw is at known))
  by (Some n) is known = (ap (λ (found : Option Name). ofs.Class (unwrap_or found [])) (name_at-number program name n is), class_number-within program name n is)

pub known_at : (program : Program) (types : List Ty) → IsTrue (list_all (is_array_of program) types) → (k : ℕ) (ty : Ty) → slice_get types k ≡ Some ty → IsTrue (is_array_of program ty)
known_at program [] all k ty e = absurd (none-some ty e)
known_at program (x ∷ types) all zero ty e = subst (λ (t : Ty). IsTrue (is_array_of program t)) (same_Some x ty e) ((and_parts (is_array_of program x) (list_all (is_array_of program) types) all).0)
known_at program (x ∷ types) all (suc k) ty e = known_at program types ((and_parts (is_array_of program x) (list_all (is_array_of program) types) all).1) k ty e

pub record IsShapeAt (typed : Typed) (class : ℕ) (shape : Shape) : Type 0 where
  pub is : shape_type typed.program shape ≡ type_at typed class
  pub element : IsElement typed.program shape.of

element_at : (program : Program) (shapes : List Shape) → AreElements program shapes → (k : ℕ) → k < length shapes → (d : Shape) → IsElement program (get_or shapes k d).of
element_at program [] all k lt d = absurd (omega arith)
element_at program (s ∷ shapes) all zero lt d = all.0
element_at program (s ∷ shapes) all (suc k) lt d = element_at program shapes all.1 k (omega arith) d

shape_at : (program : Program) (shapes : List Shape) (k : ℕ) → k < length shapes → (d : Shape) → slice_get (map (shape_type program) shapes) k ≡ Some (shape_type program (get_or shapes k d))
shape_at program [] k lt d = absurd (omega arith)
shape_at program (s ∷ shapes) zero lt d = refl
shape_at program (s ∷ shapes) (suc k) lt d = shape_at program shapes k (omega arith) d

pub shape_of_array : (typed : Typed) (shapes : List Shape) → map (shape_type typed.program) shapes ≡ typed.arrays → AreElements typed.program shapes
    → (class count k : ℕ) → count ≡ length typed.program → class < length (types_of typed) → count ≤ class → k ≡ class - count
    → (reported : Shape) → reported ≡ get_or shapes k reported → IsShapeAt typed class reported
shape_of_array typed shapes are elements class count k is lt le at reported read =
    let array = array_there typed class count k is lt le at in
    let within : k < length shapes = omega (arith, array.within, ap length are, length-map shapes (shape_type typed.program)) in
    let there : slice_get typed.arrays k ≡ Some (shape_type typed.program reported) =
    ap (λ (types : List Ty). slice_get types k) (sym are) ∙ shape_at typed.program shapes k within reported ∙ ap (λ (s : Shape). Some (shape_type typed.program s)) (sym read) in
    record {
      is = sym (type_there typed class k (shape_type typed.program reported) array there);
      element = subst (λ (s : Shape). IsElement typed.program s.of) (sym read) (element_at typed.program shapes elements k within reported);
    }

pub shape_of_class : (typed : Typed) (class count : ℕ) → count ≡ length typed.program → (count ≤ class → ⊥) → IsShapeAt typed class (record { dims = 0; of = elements.Class class })
shape_of_class typed class count is lt = record {
  is = sym (type_of_class typed.program typed.arrays class (omega arith));
  element = omega arith;
}
