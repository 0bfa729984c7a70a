-- Whether an array of references takes a reference, by numbers.
use Rattle.std.proofs.Common.{◌≡◌, ◌+◌, ◌-◌, ◌<◌, ◌≤◌, ◌||◌, ℕ, ℤ, Bool, true, false, List, [], ◌∷◌, length, reverse, Option, Some, None, nat_eq, if◌then◌else◌, refl, sym, ap, subst, ◌∙◌, arith}
use Rattle.std.specs.Prelude.{is_some, slice_get, get_or, option_and_then, unwrap_or}
use Rattle.std.specs.Option.{option_map}
use Rattle.std.proofs.lemmas.Bool.{false≢true, ne_eqb}
use Rattle.std.proofs.lemmas.List.{get_or-reverse, length-reverse}
use Rattle.std.proofs.lemmas.Option.{none-some, same_Some, slice_get-get_or, slice_get_past}
use Rattle.dj_names.specs.declared.descriptor.Base.TheVariants as bases
use Rattle.dj_names.specs.declared.descriptor.Ty.{Ty}
use Rattle.dj_names.specs.declared.run.Element.TheVariants as elements
use Rattle.dj_names.specs.declared.run.Value.{Value}
use Rattle.dj_names.specs.trusted.Heaps.{Object, Instance, Array, Text, Heap, class_of, object_at}
use Rattle.dj_names.specs.Heaps.{heap_map, object_map}
use Rattle.dj_names.specs.trusted.Types.{base_array, component_type, class_type}
use Rattle.dj_library_types.specs.Numbered.{type_at, component_of, holds_references, HaveComponents, IsNumberOf}
use Rattle.dj_model.specs.trusted.Arrays.{Found, Null, IsArray, array_at, array_in}
use Rattle.dj_model.specs.trusted.Linking.{is_subtype}
use Rattle.dj_model.specs.trusted.Performing.{class_in, takes}
use Rattle.dj_model.proofs.MappedHeaps.{object_at_mapped, class_of_mapped}
use Rattle.dj_heap.specs.Heaps.{LimitedHeap, object_in}
use Rattle.dj_stack.specs.Frames.{StackFrame, frame_of, operand_at, top_operands}
use Rattle.dj_names.specs.declared.run.Value.TheVariants as values
use Rattle.dj_effects.specs.DoesOnHeap.{IsTakenSo}
use Rattle.dj_effects.proofs.TopFacts.{last_frame}
use Rattle.dj_numbering.specs.Typed.{types_of}
use Rattle.dj_image.specs.Imaged.{Imaged, program_of, typed_of}
use Rattle.dj_image_effects.specs.Acting.{IsAbsent, IsHeap, IsThere, IsTopAbsent, IsTopThere}
use Rattle.dj_image_effects.specs.Taking.{IsOf, IsTakenBy}

-- ---- operands

top_at : (frames : List StackFrame) (at : ℕ) → option_and_then (λ (frame : StackFrame). slice_get (reverse frame.operands) at) (frame_of frames) ≡ slice_get (reverse (top_operands frames)) at
top_at [] at = refl
top_at (f ∷ frames) at = refl

from_top : (operands : List Value) (below at : ℕ) → below < length operands → at ≡ length operands - 1 - below → slice_get (reverse operands) at ≡ slice_get operands below
from_top [] below at less is = absurd (omega (arith, less))
from_top (v ∷ rest) below at less is =
    let operands : List Value = v ∷ rest in
    let long : length (reverse operands) ≡ length operands = length-reverse operands in
    let within : at < length operands = omega (arith, less, is) in
    let back : length operands - 1 - at ≡ below = omega (arith, less, is) in
    slice_get-get_or (reverse operands) at v (omega (arith, within, long))
    ∙ (ap Some (get_or-reverse operands at v within ∙ ap (λ (n : ℕ). get_or operands n v) back)
    ∙ sym (slice_get-get_or operands below v less))

-- an operand of the last frame, under this many others
pub operand_is : (frames : List StackFrame) (f at below : ℕ) → f + 1 ≡ length frames → below < length (top_operands frames) → at ≡ length (top_operands frames) - 1 - below
    → operand_at frames f at ≡ slice_get (top_operands frames) below
operand_is frames f at below last less is =
    ap (option_and_then (λ (frame : StackFrame). slice_get (reverse frame.operands) at)) (last_frame frames f last) ∙ (top_at frames at ∙ from_top (top_operands frames) below at less is)

pub no_operand : (frames : List StackFrame) (below : ℕ) → length (top_operands frames) ≤ below → None ≡ slice_get (top_operands frames) below
no_operand frames below le = sym (slice_get_past (top_operands frames) below le)

-- what stands on top is asked whether it is there
pub value_there : (heap : Heap ℕ) (operands : List Value) (v : Value) → Some v ≡ slice_get operands 0 → IsThere heap v → IsTopThere heap operands
value_there heap [] v e is = tt
value_there heap (w ∷ operands) v e is = subst (IsThere heap) (same_Some v w e) is

pub value_absent : (heap : Heap ℕ) (operands : List Value) (v : Value) → Some v ≡ slice_get operands 0 → IsAbsent heap v → IsTopAbsent heap operands
value_absent heap [] v e is = absurd (none-some v (sym e))
value_absent heap (w ∷ operands) v e is = subst (IsAbsent heap) (same_Some v w e) is

pub none_there : (heap : Heap ℕ) (operands : List Value) → None ≡ slice_get operands 0 → IsTopThere heap operands
none_there heap [] e = tt
none_there heap (w ∷ operands) e = absurd (none-some w e)

-- ---- arrays

pub null_taken : (imaged : Imaged) (heap : LimitedHeap) (r v : ℕ) → v ≡ 0 → IsTakenBy imaged heap r v true
null_taken imaged heap r v null class contents at =
    ap (λ (n : ℕ). takes (program_of imaged) imaged.prefix (heap_map (type_at (types_of (typed_of imaged))) heap.heap) r n) null

-- what is no array of references
abbrev object_of : Found ℕ → Option (Object ℕ)
object_of (IsArray class element contents) = Some (Array class element contents)
object_of found = None

in_array : (o : Option (Object ℕ)) (class : ℕ) (contents : List ℤ) → array_in o ≡ IsArray class elements.Ref contents → o ≡ Some (Array class elements.Ref contents)
in_array None class contents e = absurd cc
in_array (Some (Instance c fields)) class contents e = absurd cc
in_array (Some (Array c element d)) class contents e = ap object_of e
in_array (Some (Text c units)) class contents e = absurd cc

array_is : (heap : Heap ℕ) (r class : ℕ) (contents : List ℤ) → array_at heap r ≡ IsArray class elements.Ref contents → object_at heap.objects r ≡ Some (Array class elements.Ref contents)
array_is heap r class contents e = by (nat_eq r 0) refl e where
  by : (b : Bool) → nat_eq r 0 ≡ b → (if b then Null else array_in (object_at heap.objects r)) ≡ IsArray class elements.Ref contents → object_at heap.objects r ≡ Some (Array class elements.Ref contents)
  by true z f = absurd cc
  by false z f = in_array (object_at heap.objects r) class contents f

pub null_array : (imaged : Imaged) (heap : LimitedHeap) (r v : ℕ) (b : Bool) → r ≡ 0 → IsTakenBy imaged heap r v b
null_array imaged heap r v b null class contents at =
    let none : object_at heap.heap.objects r ≡ None = ap (object_at heap.heap.objects) null in
    absurd (none-some _ (sym none ∙ array_is heap.heap r class contents at))

pub none_past : (objects : List (Object ℕ)) (r : ℕ) → length objects < r → object_at objects r ≡ None
none_past objects r past = by (nat_eq r 0) refl where
  by : (b : Bool) → nat_eq r 0 ≡ b → (if b then None else slice_get objects (r - 1)) ≡ None
  by true e = refl
  by false e = slice_get_past objects (r - 1) (omega (arith, past))

pub past_array : (imaged : Imaged) (heap : LimitedHeap) (r v : ℕ) (b : Bool) → length heap.heap.objects < r → IsTakenBy imaged heap r v b
past_array imaged heap r v b past class contents at =
    absurd (none-some _ (sym (none_past heap.heap.objects r past) ∙ array_is heap.heap r class contents at))

class_reported : (imaged : Imaged) (heap : LimitedHeap) (v class : ℕ) → option_map class_of (object_in heap v) ≡ Some class
    → class_in (object_at (heap_map (type_at (types_of (typed_of imaged))) heap.heap).objects v) ≡ type_at (types_of (typed_of imaged)) class
class_reported imaged heap v class reported = ap class_in (object_at_mapped (type_at (types_of (typed_of imaged))) heap.heap.objects v) ∙ by (object_at heap.heap.objects v) reported where
  by : (o : Option (Object ℕ)) → option_map class_of o ≡ Some class → class_in (option_map (object_map (type_at (types_of (typed_of imaged)))) o) ≡ type_at (types_of (typed_of imaged)) class
  by None e = absurd (none-some class e)
  by (Some object) e = class_of_mapped (type_at (types_of (typed_of imaged))) object ∙ ap (type_at (types_of (typed_of imaged))) (same_Some (class_of object) class e)

-- one of an object
pub object_of_class : (imaged : Imaged) (heap : LimitedHeap) (v class own : ℕ) (is : Bool) → option_map class_of (object_in heap v) ≡ Some own
    → is ≡ is_subtype (program_of imaged) imaged.prefix (type_at (types_of (typed_of imaged)) own) (type_at (types_of (typed_of imaged)) class) → IsOf imaged heap v class is
object_of_class imaged heap v class own is reported e =
    ap (λ (ty : Ty). is_subtype (program_of imaged) imaged.prefix ty (type_at (types_of (typed_of imaged)) class)) (class_reported imaged heap v own reported) ∙ sym e

-- and one of none
pub absent_of_class : (imaged : Imaged) (heap : LimitedHeap) (v class : ℕ) (is : Bool) → length heap.heap.objects < v
    → is ≡ is_subtype (program_of imaged) imaged.prefix (base_array bases.Boolean) (type_at (types_of (typed_of imaged)) class) → IsOf imaged heap v class is
absent_of_class imaged heap v class is past e =
    ap (λ (o : Option (Object Ty)). is_subtype (program_of imaged) imaged.prefix (class_in o) (type_at (types_of (typed_of imaged)) class)) (object_at_mapped (type_at (types_of (typed_of imaged))) heap.heap.objects v ∙ ap (option_map (object_map (type_at (types_of (typed_of imaged))))) (none_past heap.heap.objects v past))
    ∙ sym e

module _ (imaged : Imaged) (heap : LimitedHeap) (known : IsHeap imaged heap) (r v : ℕ) (array : ℕ) (at : option_map class_of (object_in heap r) ≡ Some array) where
  abbrev types : List Ty
  types = types_of (typed_of imaged)

  same_class : (class : ℕ) (contents : List ℤ) → array_at heap.heap r ≡ IsArray class elements.Ref contents → class ≡ array
  same_class class contents is =
      same_Some class array (sym (ap (option_map class_of) (array_is heap.heap r class contents is)) ∙ at)

  holds : (class : ℕ) (contents : List ℤ) → array_at heap.heap r ≡ IsArray class elements.Ref contents → holds_references (type_at types array) ≡ true
  holds class contents is =
      subst (λ (c : ℕ). holds_references (type_at types c) ≡ true) (same_class class contents is) (known.arrays r class contents (array_is heap.heap r class contents is))

  component_reported : (b : Bool) (k : ℕ) (ty : Ty) → b ≡ true → IsNumberOf types (if b then Some ty else None) (Some k) → slice_get types k ≡ Some ty
  component_reported true k ty e is = is
  component_reported false k ty e is = absurd is

  component_none : (b : Bool) (ty : Ty) → b ≡ true → IsNumberOf types (if b then Some ty else None) None → (k : ℕ) → slice_get types k ≡ Some ty → ⊥
  component_none true ty e is = is
  component_none false ty e is = absurd cc

  pub component_taken : (k : ℕ) (taken : Bool) → (v ≡ 0 → ⊥) → IsNumberOf types (component_of (type_at types array)) (Some k) → IsOf imaged heap v k taken → IsTakenBy imaged heap r v taken
  component_taken k taken some component is c contents array_there =
      let there : slice_get types k ≡ Some (component_type (type_at types array)) =
      component_reported (holds_references (type_at types array)) k (component_type (type_at types array)) (holds c contents array_there) component in
      let type : type_at types k ≡ component_type (type_at types array) = ap (λ (o : Option Ty). unwrap_or o (class_type [])) there in
      ap (λ (b : Bool). b || is_subtype (program_of imaged) imaged.prefix (class_in (object_at (heap_map (type_at types) heap.heap).objects v)) (component_type (class_in (object_at (heap_map (type_at types) heap.heap).objects r)))) (ne_eqb v 0 some)
      ∙ (ap (λ (ty : Ty). is_subtype (program_of imaged) imaged.prefix (class_in (object_at (heap_map (type_at types) heap.heap).objects v)) (component_type ty)) (class_reported imaged heap r array at)
      ∙ (ap (is_subtype (program_of imaged) imaged.prefix (class_in (object_at (heap_map (type_at types) heap.heap).objects v))) (sym type) ∙ is))

  -- what the elements are has a number
  pub component_there : (taken : Bool) → array < length types → HaveComponents types → IsNumberOf types (component_of (type_at types array)) None → IsTakenBy imaged heap r v taken
  component_there taken within all none c contents array_there =
      let holds_them = holds c contents array_there in
      let has = all array within holds_them in
      absurd (component_none (holds_references (type_at types array)) (component_type (type_at types array)) holds_them none has.number has.at)

-- a class with a known component is one of arrays of references
pub component_holds : (all : List Ty) (class : ℕ) (o : Option ℕ) → IsNumberOf all (component_of (type_at all class)) o → is_some o ≡ true → holds_references (type_at all class) ≡ true
component_holds all class None is some = absurd (false≢true some)
component_holds all class (Some k) is some = by (holds_references (type_at all class)) is where
  by : (b : Bool) → IsNumberOf all (if b then Some (component_type (type_at all class)) else None) (Some k) → b ≡ true
  by true is = refl
  by false is = absurd is

-- one answer for all is that answer
pub taken_alike : (taken : Bool) (operands : List Value) → IsTakenSo (λ r v. taken) operands taken
taken_alike taken (values.Ref v ∷ (values.Int index ∷ (values.Ref r ∷ rest))) = refl
taken_alike taken _ = tt
