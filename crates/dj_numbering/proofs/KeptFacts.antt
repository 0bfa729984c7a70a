-- What is kept of arrays beside their types, shapes of types, and how many fields an object has, by plain values: of A, of B below it that lists
-- the interface I, of I, and of Object, which has a field.
use Rattle.std.proofs.Common.{◌≡◌, ℕ, zero, suc, ◌+◌, ◌<◌, ◌≤◌, ◌^◌, List, [], ◌∷◌, map, length, get_or, replicate, codes, refl, sym, ap, subst, ◌∙◌, arith, Option, Some, None, Less, Equal, Greater}
use Rattle.std.specs.List.Sorted.{IsStrictlySortedBy}
use Rattle.std.proofs.lemmas.Bool.{true≢false, false≢true}
use Rattle.std.proofs.lemmas.List.{length-replicate}
use Rattle.std.proofs.lemmas.Option.{none-some, same_Some}
use Rattle.dj_names.specs.declared.descriptor.Base.TheVariants as bases
use Rattle.dj_names.specs.declared.descriptor.Of.{Of}
use Rattle.dj_names.specs.declared.descriptor.Of.TheVariants as ofs
use Rattle.dj_names.specs.declared.descriptor.Ty.{Ty}
use Rattle.dj_names.specs.trusted.Descriptors.{type_text}
use Rattle.dj_names.specs.trusted.Library.{int}
use Rattle.dj_names.specs.trusted.Types.{Name, class_type, base_array, array_type}
use Rattle.dj_model.specs.trusted.Program.{Program, Class}
use Rattle.dj_model.specs.trusted.Linking.{most_classes, chain_of, field_count}
use Rattle.dj_model.specs.SmallRuns.{class_with, field_with}
use Rattle.dj_numbering.specs.declared.arrays.Arrays.{Arrays}
use Rattle.dj_numbering.specs.declared.members.Members.{Members}
use Rattle.dj_numbering.specs.declared.shapes.ElementType.{ElementType}
use Rattle.dj_numbering.specs.declared.shapes.ElementType.TheVariants as elements
use Rattle.dj_numbering.specs.declared.shapes.Shape.{Shape}
use Rattle.dj_resolution.specs.Directories.{CallTable, IsCallTable}
use Rattle.dj_numbering.specs.Kept.{DoTextsRise, number_among, component_text, number_if, component_in, wholes_of, text_in, AreKept, IsTyped}
use Rattle.dj_numbering.specs.declared.own.OwnClasses.{OwnClasses}
use Rattle.dj_numbering.specs.Own.{AreOwn}
use Rattle.dj_numbering.specs.Members.{all_fields, field_count_at}
use Rattle.dj_numbering.specs.Numbered.{AreMembers, AreObjectPlaces}
use Rattle.dj_numbering.specs.Shapes.{element_of, shape_type, IsElement, AreElements, element_in, shape_in}
use Rattle.dj_numbering.specs.Typed.{Typed, ArePlain, begins_array}
use Rattle.dj_numbering.proofs.Facts.{other_name, other_number}
use Rattle.dj_numbering.proofs.Wholes.{spelled_by}

-- ---- a program

-- s is static
abbrev a_class : Class
a_class = class_with (codes "A") (field_with 1 (codes "x") int None ∷ field_with 9 (codes "s") int None ∷ []) []

abbrev b_class : Class
b_class = record (class_with (codes "B") (field_with 1 (codes "y") int None ∷ []) []) { superclass = Some (codes "A"); interfaces = codes "I" ∷ [] }

abbrev i_class : Class
i_class = record (class_with (codes "I") (field_with 1 (codes "z") int None ∷ []) []) { flags = 1537 }

abbrev base_class : Class
base_class = record (class_with (codes "java/lang/Object") (field_with 2 (codes "h") int None ∷ []) []) { superclass = None }

-- with fields without names, and below a class that isn't there
abbrev c_class : Class
c_class = record (class_with (codes "C") [] []) { superclass = Some (codes "D"); unnamed_fields = 3 }

abbrev program : Program
program = a_class ∷ b_class ∷ i_class ∷ base_class ∷ []

abbrev ints : Ty
ints = base_array bases.Int

abbrev array_of : Name → Ty
array_of name = array_type (class_type name)

abbrev types : List Ty
types = ints ∷ array_of (codes "A") ∷ array_type ints ∷ []

-- ---- fields of objects

abbrev typed : Typed
typed = record { program = a_class ∷ b_class ∷ i_class ∷ base_class ∷ c_class ∷ []; prefix = []; arrays = types }

-- those of superclasses count, and those of interfaces don't; arrays have none, though Object has one, nor has what isn't there
field_counts : map (field_count_at typed) (0 ∷ 1 ∷ 3 ∷ 4 ∷ 5 ∷ 6 ∷ 7 ∷ 8 ∷ []) ≡ 2 ∷ 3 ∷ 1 ∷ 3 ∷ 0 ∷ 0 ∷ 0 ∷ 0 ∷ []
unfolding most_classes chain_of field_count
field_counts = refl

inherited_left_out : field_count_at typed 1 ≡ 1 → ⊥
unfolding most_classes chain_of field_count
inherited_left_out e = other_number 3 1 refl (ap Some e)

static_counted : field_count_at typed 0 ≡ 3 → ⊥
unfolding most_classes chain_of field_count
static_counted e = other_number 2 3 refl (ap Some e)

interface_counted : field_count_at typed 1 ≡ 4 → ⊥
unfolding most_classes chain_of field_count
interface_counted e = other_number 3 4 refl (ap Some e)

unnamed_left_out : field_count_at typed 4 ≡ 0 → ⊥
unfolding most_classes chain_of field_count
unnamed_left_out e = other_number 3 0 refl (ap Some e)

-- neither Object's nor those of what it holds
fields_of_array : field_count_at typed 6 ≡ 1 → ⊥
fields_of_array e = other_number 0 1 refl (ap Some e)

fields_of_elements : field_count_at typed 6 ≡ 2 → ⊥
fields_of_elements e = other_number 0 2 refl (ap Some e)

-- ---- texts

-- by bytes and not by length: a bracket is above all letters
texts_rise : DoTextsRise [] × DoTextsRise (codes "[B" ∷ codes "[LA;" ∷ codes "[LAB;" ∷ codes "[[B" ∷ [])
unfolding IsStrictlySortedBy
texts_rise = (tt, ((refl, (refl, (refl, tt))), ((refl, (refl, tt)), ((refl, tt), (tt, tt)))))

texts_fall : DoTextsRise (codes "[B" ∷ codes "[[B" ∷ codes "[LA;" ∷ []) → ⊥
unfolding IsStrictlySortedBy
texts_fall rise = let e : Greater ≡ Less = rise.1.0.0 in absurd cc

text_twice : DoTextsRise (codes "[B" ∷ codes "[B" ∷ []) → ⊥
unfolding IsStrictlySortedBy
text_twice rise = let e : Equal ≡ Less = rise.0.0 in absurd cc

-- ---- numbers of texts

abbrev texts : List Name
texts = codes "[I" ∷ codes "[LA;" ∷ codes "[[I" ∷ []

-- of a class by its name, and of an array by its descriptor, behind all classes
numbers : map (number_among program texts) (codes "A" ∷ codes "java/lang/Object" ∷ codes "[I" ∷ codes "[[I" ∷ codes "LA;" ∷ codes "[B" ∷ [] ∷ []) ≡ Some 0 ∷ Some 3 ∷ Some 4 ∷ Some 6 ∷ None ∷ None ∷ None ∷ []
numbers = refl

class_first : number_among (record a_class { name = codes "[I" } ∷ []) texts (codes "[I") ≡ Some 0
class_first = refl

classes_not_counted : number_among program texts (codes "[I") ≡ Some 0 → ⊥
classes_not_counted e = other_number 4 0 refl e

if_some : map (number_if program texts) (None ∷ Some (codes "B") ∷ Some (codes "[LA;") ∷ Some (codes "[B") ∷ []) ≡ None ∷ Some 1 ∷ Some 5 ∷ None ∷ []
if_some = refl

-- ---- what the elements are

abbrev each : List Ty
each = class_type (codes "A") ∷ int ∷ ints ∷ array_type ints ∷ array_type (array_type ints) ∷ array_of (codes "A") ∷ array_type (array_of (codes "A")) ∷ array_of (codes "D") ∷ []

-- a class by its name, and an array by its descriptor; where they are no references there is nothing
component_texts : map component_text each ≡ None ∷ None ∷ None ∷ Some (codes "[I") ∷ Some (codes "[[I") ∷ Some (codes "A") ∷ Some (codes "[LA;") ∷ Some (codes "D") ∷ []
component_texts = refl

class_by_descriptor : component_text (array_of (codes "A")) ≡ Some (codes "LA;") → ⊥
class_by_descriptor e = other_name (codes "A") (codes "LA;") refl (same_Some (codes "A") (codes "LA;") e)

components : map (component_in program texts) each ≡ None ∷ None ∷ None ∷ Some 4 ∷ Some 6 ∷ Some 0 ∷ Some 5 ∷ None ∷ []
components = refl

component_of_ints : component_in program texts ints ≡ Some 4 → ⊥
component_of_ints e = none-some 4 e

array_itself : component_in program texts (array_of (codes "A")) ≡ Some 5 → ⊥
array_itself e = other_number 0 5 refl e

-- ---- shapes

abbrev shape : ℕ → ElementType → Shape
shape dims of = record { dims = dims; of = of }

elements_reported : map (element_of program) (elements.Base bases.Long ∷ elements.Class 0 ∷ elements.Class 3 ∷ []) ≡ ofs.Base bases.Long ∷ ofs.Class (codes "A") ∷ ofs.Class (codes "java/lang/Object") ∷ []
elements_reported = refl

shapes_reported : map (shape_type program) (shape 0 (elements.Class 1) ∷ shape 1 (elements.Base bases.Int) ∷ shape 2 (elements.Class 0) ∷ []) ≡ class_type (codes "B") ∷ ints ∷ array_type (array_of (codes "A")) ∷ []
shapes_reported = refl

elements_there : IsElement program (elements.Base bases.Byte) × IsElement program (elements.Class 3)
elements_there = (tt, omega arith)

element_past_last : IsElement program (elements.Class 4) → ⊥
element_past_last there = let lt : 4 < 4 = there in omega (arith, lt)

elements_found : map (element_in program) (ofs.Base bases.Long ∷ ofs.Class (codes "B") ∷ ofs.Class (codes "java/lang/Object") ∷ []) ≡ elements.Base bases.Long ∷ elements.Class 1 ∷ elements.Class 3 ∷ []
elements_found = refl

shapes_found : map (shape_in program) (class_type (codes "B") ∷ ints ∷ array_type (array_of (codes "A")) ∷ int ∷ []) ≡ shape 0 (elements.Class 1) ∷ shape 1 (elements.Base bases.Int) ∷ shape 2 (elements.Class 0) ∷ shape 0 (elements.Base bases.Int) ∷ []
shapes_found = refl

abbrev class_of : ElementType → ℕ
class_of (elements.Base base) = 99
class_of (elements.Class class) = class

shape_of_first : shape_in program (array_of (codes "B")) ≡ shape 1 (elements.Class 0) → ⊥
shape_of_first e = let k : 1 ≡ 0 = ap (λ (s : Shape). class_of s.of) e in omega (arith, k)

shape_of_elements : shape_in program (array_of (codes "B")) ≡ shape 0 (elements.Class 1) → ⊥
shape_of_elements e = let k : 1 ≡ 0 = ap (λ (s : Shape). s.dims) e in omega (arith, k)

type_of_first : shape_type program (shape 1 (elements.Class 1)) ≡ array_of (codes "A") → ⊥
type_of_first e = other_name (codes "B") (codes "A") refl (ap (λ (ty : Ty). name_in ty.of) e) where
  name_in : Of → Name
  name_in (ofs.Base base) = []
  name_in (ofs.Class name) = name

-- ---- one of each for each array

abbrev kept_shapes : List Shape
kept_shapes = shape 1 (elements.Base bases.Int) ∷ shape 1 (elements.Class 0) ∷ shape 2 (elements.Base bases.Int) ∷ []

abbrev kept_components : List (Option ℕ)
kept_components = None ∷ Some 0 ∷ Some 4 ∷ []

module _ (k : Arrays) where
  kept : k.wholes.items ≡ wholes_of program → k.shapes.items ≡ kept_shapes → k.components.items ≡ kept_components → AreKept program types k
  kept wholes_are shapes_are components_are = record {
    are_arrays = record { each = refl; rise = refl };
    few = omega arith;
    texts = ap (λ (shapes : List Shape). map (text_in k.wholes.items) shapes) shapes_are ∙ spelled_by program k.wholes.items kept_shapes wholes_are (record { each = refl; rise = refl }) (tt, (omega arith, (tt, tt)));
    shapes = ap (map (shape_type program)) shapes_are;
    elements = subst (AreElements program) (sym shapes_are) (tt, (omega arith, (tt, tt)));
    components = components_are;
  }

  wholes_left_out : k.wholes.items ≡ [] → k.shapes.items ≡ kept_shapes → AreKept program types k → ⊥
  wholes_left_out is shapes_are kept = other_name [] (codes "[I") refl (ap (λ (xs : List Name). get_or xs 0 []) (sym (ap (λ (wholes : List Name). map (text_in wholes) k.shapes.items) is ∙ ap (map (text_in [])) shapes_are) ∙ kept.texts))

  shape_of_other : k.shapes.items ≡ shape 1 (elements.Base bases.Int) ∷ shape 1 (elements.Class 1) ∷ shape 2 (elements.Base bases.Int) ∷ [] → AreKept program types k → ⊥
  shape_of_other is kept = other_name (codes "[LB;") (codes "[LA;") refl (ap (λ (ts : List Ty). type_text (get_or ts 1 ints)) (sym (ap (map (shape_type program)) is) ∙ kept.shapes))

  dimension_left_out : k.shapes.items ≡ shape 1 (elements.Base bases.Int) ∷ shape 1 (elements.Class 0) ∷ shape 1 (elements.Base bases.Int) ∷ [] → AreKept program types k → ⊥
  dimension_left_out is kept = let e : 1 ≡ 2 = ap (λ (ts : List Ty). (get_or ts 2 ints).dims) (sym (ap (map (shape_type program)) is) ∙ kept.shapes) in omega (arith, e)

  class_past_the_last : k.shapes.items ≡ shape 1 (elements.Class 3) ∷ [] → AreKept program types k → ⊥
  class_past_the_last is kept = let e : 1 ≡ 3 = ap length (sym (ap (map (shape_type program)) is) ∙ kept.shapes) in omega (arith, e)

  component_left_out : k.components.items ≡ None ∷ None ∷ Some 4 ∷ [] → AreKept program types k → ⊥
  component_left_out is kept = none-some 0 (ap (λ (xs : List (Option ℕ)). get_or xs 1 None) (sym is ∙ kept.components))

  place_of_component : k.components.items ≡ None ∷ Some 0 ∷ Some 0 ∷ [] → AreKept program types k → ⊥
  place_of_component is kept = other_number 0 4 refl (ap (λ (xs : List (Option ℕ)). get_or xs 2 None) (sym is ∙ kept.components))

  -- not of a class, of arrays out of order or of an absent class, nor where their numbers take more than 32 bits
  of_class : AreKept program (class_type (codes "A") ∷ []) k → ⊥
  of_class kept = false≢true kept.are_arrays.each

  of_absent : AreKept program (array_of (codes "D") ∷ []) k → ⊥
  of_absent kept = false≢true kept.are_arrays.each

  out_of_order : AreKept program (array_of (codes "A") ∷ ints ∷ []) k → ⊥
  out_of_order kept = false≢true kept.are_arrays.rise

  too_many : (c : Class) (n : ℕ) → 2 ^ 32 ≤ n + 1 → AreKept (replicate n c) (ints ∷ []) k → ⊥
  too_many c n many kept = let all = length-replicate n c in omega (arith, many, kept.few, all)

-- ---- all of it

plain : ArePlain program
plain zero name at = ap begins_array (sym (same_Some (codes "A") name at))
plain (suc zero) name at = ap begins_array (sym (same_Some (codes "B") name at))
plain (suc (suc zero)) name at = ap begins_array (sym (same_Some (codes "I") name at))
plain (suc (suc (suc zero))) name at = ap begins_array (sym (same_Some (codes "java/lang/Object") name at))
plain (suc (suc (suc (suc k)))) name at = absurd (none-some name at)

module _ (k : Arrays) (m : Members) (c : CallTable) (o : OwnClasses) (ps : List ℕ) where
  all_kept : AreKept program types k → AreMembers program m → IsCallTable program c → AreOwn (record { program = program; prefix = []; arrays = types }) o → AreObjectPlaces program ps → IsTyped program [] types k m c o ps
  all_kept kept members calls own places = record { plain = plain; arrays_are = kept; members_are = members; calls_are = calls; own_are = own; places_are = places }

  bracket_in_name : IsTyped (record a_class { name = codes "[I" } ∷ []) [] [] k m c o ps → ⊥
  bracket_in_name reported = true≢false (reported.plain 0 (codes "[I") refl)

  arrays_of_none : k.components.items ≡ [] → IsTyped program [] types k m c o ps → ⊥
  arrays_of_none is reported = let e : 0 ≡ 3 = ap length (sym is ∙ reported.arrays_are.components) in omega (arith, e)

  members_of_none : m.field_sums.items ≡ [] → IsTyped program [] types k m c o ps → ⊥
  members_of_none is reported = let e : 0 ≡ 4 = sym (ap length is) ∙ reported.members_are.sums.long in omega (arith, e)

  -- there is no String, no array of chars or bytes and no object that stops a run
  string_of_none : o.string ≡ Some 0 → IsTyped program [] types k m c o ps → ⊥
  string_of_none is reported = let e : Some 0 ≡ None = sym is ∙ reported.own_are.string in absurd cc

  chars_of_none : o.chars ≡ Some 0 → IsTyped program [] types k m c o ps → ⊥
  chars_of_none is reported = none-some 0 (sym (reported.own_are.array bases.Char) ∙ is)

  bytes_of_none : o.bytes ≡ Some 4 → IsTyped program [] types k m c o ps → ⊥
  bytes_of_none is reported = none-some 4 (sym (reported.own_are.array bases.Byte) ∙ is)

  -- those of ints are there
  ints_left_out : o.ints ≡ None → IsTyped program [] types k m c o ps → ⊥
  ints_left_out is reported = none-some 4 (sym is ∙ reported.own_are.array bases.Int)

  stop_of_none : o.stop ≡ Some 0 → IsTyped program [] types k m c o ps → ⊥
  stop_of_none is reported = let e : Some 0 ≡ None = sym is ∙ reported.own_are.stop in absurd cc

  -- the classes have five fields
  places_of_one : ps ≡ 0 ∷ [] → IsTyped program [] types k m c o ps → ⊥
  unfolding all_fields
  places_of_one is reported = let e : 1 ≡ 5 = sym (ap length is) ∙ reported.places_are.long in omega (arith, e)
