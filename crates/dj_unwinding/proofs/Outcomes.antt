-- What is returned, by the numbers of classes and by their types.
use Rattle.std.proofs.Common.{◌≡◌, ◌<◌, ◌≤◌, ℕ, zero, suc, ◌-◌, Bool, false, ℤ, pos, negsuc, List, [], ◌∷◌, length, map, Option, Some, None, IsSome, nat_eq, if◌then◌else◌, refl, sym, ap, subst, ◌∙◌, inl, inr, arith, eqb-true}
use Rattle.std.specs.Prelude.{option_and_then, slice_get, unsigned_abs}
use Rattle.std.specs.Int.{w8, int_wrap, int_rem_euclid, cast_unsigned}
use Rattle.std.specs.Option.{option_map}
use Rattle.std.proofs.lemmas.Int.{of_z-to_z}
use Rattle.std.proofs.lemmas.Option.{slice_get-map}
use Rattle.dj_names.specs.declared.descriptor.Ty.{Ty}
use Rattle.dj_names.specs.declared.run.Value.{Value}
use Rattle.dj_names.specs.declared.run.Value.TheVariants as values
use Rattle.dj_names.specs.declared.run.Element.{Element}
use Rattle.dj_names.specs.declared.run.Element.TheVariants as elements
use Rattle.dj_names.specs.declared.run.Outcome.TheVariants as outcomes
use Rattle.dj_names.specs.trusted.Heaps.{Object, Instance, Array, Text, Heap, object_at}
use Rattle.dj_names.specs.Heaps.{object_map, heap_map}
use Rattle.dj_model.specs.trusted.Arrays.{array_in}
use Rattle.dj_model.specs.trusted.Step.{bytes_in, result_outcome}
use Rattle.dj_model.proofs.MappedNames.{either}
use Rattle.dj_heap.specs.Heaps.{LimitedHeap, object_in, contents_of, element_in, low_bits, IsKeptIn}
use Rattle.dj_heap.specs.Lengths.{object_length}
use Rattle.dj_heap.specs.Calls.{made_as}
use Rattle.dj_heap.specs.declared.object.Made.TheVariants as made
use Rattle.dj_unwinding.specs.Results.{contents_in, array_outcome, object_outcome, reference_outcome, value_outcome, contents_at, HasElements}

-- ---- classes by their types

bytes_reported : (element : Element) (contents : List ℤ) (class : Ty) → array_outcome element contents ≡ bytes_in (array_in (Some (Array class element contents)))
bytes_reported elements.Byte contents class = refl
bytes_reported elements.Boolean contents class = refl
bytes_reported elements.Char contents class = refl
bytes_reported elements.Short contents class = refl
bytes_reported elements.Int contents class = refl
bytes_reported elements.Long contents class = refl
bytes_reported elements.Ref contents class = refl

object_reported : (type_of : ℕ → Ty) (o : Option (Object ℕ)) → object_outcome o ≡ bytes_in (array_in (option_map (object_map type_of) o))
object_reported type_of None = refl
object_reported type_of (Some (Instance class fields)) = refl
object_reported type_of (Some (Array class element contents)) = bytes_reported element contents (type_of class)
object_reported type_of (Some (Text class units)) = refl

pub outcome_reported : (heap : Heap ℕ) (type_of : ℕ → Ty) (value : Option Value) → value_outcome heap value ≡ result_outcome (heap_map type_of heap) value
outcome_reported heap type_of None = refl
outcome_reported heap type_of (Some (values.Int z)) = refl
outcome_reported heap type_of (Some (values.Long z)) = refl
outcome_reported heap type_of (Some (values.Ref r)) = elim (either (nat_eq r 0)) [
  | inl e ↦ rw e refl
  | inr e ↦ rw e (object_reported type_of (slice_get heap.objects (r - 1)) ∙ sym (ap (λ (o : Option (Object Ty)). bytes_in (array_in o)) (slice_get-map (object_map type_of) heap.objects (r - 1))))
]

-- ---- what a reference is

not_null : (r : ℕ) → (r ≡ 0 → ⊥) → nat_eq r 0 ≡ false
not_null r some = elim (either (nat_eq r 0)) [ inl e ↦ absurd (some (eqb-true r 0 e)) | inr e ↦ e ]

at_object : (heap : Heap ℕ) (r : ℕ) → (r ≡ 0 → ⊥) → reference_outcome heap r ≡ object_outcome (object_at heap.objects r)
at_object heap r some = ap (λ (b : Bool). if b then outcomes.OkNull else object_outcome (object_at heap.objects r)) (not_null r some)

number_there : (h : LimitedHeap) (r : ℕ) → (r ≡ 0 → ⊥) → object_in h r ≡ slice_get h.heap.objects (r - 1)
number_there h r some = ap (λ (b : Bool). if b then None else slice_get h.heap.objects (r - 1)) (not_null r some)

past : (objects : List (Object ℕ)) (i : ℕ) → length objects ≤ i → slice_get objects i ≡ None
past [] i e = refl
past (o ∷ objects) zero e = absurd (omega (arith, e))
past (o ∷ objects) (suc i) e = past objects i (omega (arith, e))

inside : {A : Type 0} (items : List A) (i : ℕ) → i < length items → IsSome (slice_get items i)
inside [] i e = absurd (omega (arith, e))
inside (item ∷ items) zero e = refl
inside (item ∷ items) (suc i) e = inside items i (omega (arith, e))

above : (r : ℕ) → (r ≡ 0 → ⊥) → 0 < r
above zero some = absurd (some refl)
above (suc r) some = omega arith

pub object_there : (h : LimitedHeap) (r : ℕ) → (r ≡ 0 → ⊥) → r ≤ length h.heap.objects → IsSome (object_in h r)
object_there h r some e =
    let first : 0 < r = above r some in
    subst IsSome (sym (number_there h r some)) (inside h.heap.objects (r - 1) (omega (arith, e, first)))

pub null_outcome : (h : LimitedHeap) (r : ℕ) → r ≡ 0 → outcomes.OkNull ≡ reference_outcome h.heap r
null_outcome h r null = ap (λ (r : ℕ). reference_outcome h.heap r) (sym null)

pub no_object : (h : LimitedHeap) (r : ℕ) → (r ≡ 0 → ⊥) → length h.heap.objects < r → outcomes.Link ≡ reference_outcome h.heap r
no_object h r some e =
    let none : object_in h r ≡ None = number_there h r some ∙ past h.heap.objects (r - 1) (omega (arith, e)) in
    ap object_outcome (sym none) ∙ sym (at_object h.heap r some)

pub instance_outcome : (h : LimitedHeap) (r : ℕ) → (r ≡ 0 → ⊥) → option_map made_as (object_in h r) ≡ Some made.Instance → outcomes.Link ≡ reference_outcome h.heap r
instance_outcome h r some kind = by (object_in h r) kind ∙ sym (at_object h.heap r some) where
  by : (o : Option (Object ℕ)) → option_map made_as o ≡ Some made.Instance → outcomes.Link ≡ object_outcome o
  by None e = absurd cc
  by (Some (Instance class fields)) e = refl
  by (Some (Array class element contents)) e = absurd cc
  by (Some (Text class units)) e = refl

pub text_outcome : (h : LimitedHeap) (r : ℕ) → (r ≡ 0 → ⊥) → option_map made_as (object_in h r) ≡ Some made.Text → outcomes.Link ≡ reference_outcome h.heap r
text_outcome h r some kind = by (object_in h r) kind ∙ sym (at_object h.heap r some) where
  by : (o : Option (Object ℕ)) → option_map made_as o ≡ Some made.Text → outcomes.Link ≡ object_outcome o
  by None e = absurd cc
  by (Some (Instance class fields)) e = refl
  by (Some (Array class element contents)) e = absurd cc
  by (Some (Text class units)) e = refl

pub elements_there : (h : LimitedHeap) (r : ℕ) (element : Element) → option_map made_as (object_in h r) ≡ Some (made.Array element) → HasElements h r element
elements_there h r element kind = by (object_in h r) refl kind where
  by : (o : Option (Object ℕ)) → object_in h r ≡ o → option_map made_as o ≡ Some (made.Array element) → HasElements h r element
  by None is e = absurd cc
  by (Some (Instance class fields)) is e = absurd cc
  by (Some (Array class of contents)) is e =
      let same : of ≡ element = cc in record { class = class; contents = contents; there = is ∙ ap (λ (x : Element). Some (Array class x contents)) same }
  by (Some (Text class units)) is e = absurd cc

pub outcome_of_array : (h : LimitedHeap) (r : ℕ) (element : Element) → (r ≡ 0 → ⊥) → HasElements h r element → array_outcome element (contents_at h r) ≡ reference_outcome h.heap r
outcome_of_array h r element some has =
    ap (λ (o : Option (Object ℕ)). array_outcome element (contents_in o)) has.there
    ∙ (sym (ap object_outcome has.there) ∙ sym (at_object h.heap r some))

-- ---- bytes

contents_are : (h : LimitedHeap) (r : ℕ) (element : Element) (has : HasElements h r element) → contents_at h r ≡ has.contents
contents_are h r element has = ap contents_in has.there

pub length_reported : (h : LimitedHeap) (r count : ℕ) (element : Element) → HasElements h r element → option_map object_length (object_in h r) ≡ Some count → count ≡ length (contents_at h r)
length_reported h r count element has e =
    let is : Some (length has.contents) ≡ Some count = sym (ap (option_map object_length) has.there) ∙ e in
    let same : length has.contents ≡ count = cc in
    sym same ∙ ap (λ (xs : List ℤ). length xs) (sym (contents_are h r element has))

element_is : (h : LimitedHeap) (r at : ℕ) (element : Element) (has : HasElements h r element) → element_in h r at ≡ slice_get has.contents at
element_is h r at element has = ap (λ (o : Option (Object ℕ)). option_and_then (λ contents. slice_get contents at) (option_and_then contents_of o)) has.there

pub element_there : (h : LimitedHeap) (r at : ℕ) (element : Element) → HasElements h r element → at < length (contents_at h r) → IsSome (element_in h r at)
element_there h r at element has lt =
    subst IsSome (sym (element_is h r at element has)) (inside has.contents at (subst (λ (xs : List ℤ). at < length xs) (contents_are h r element has) lt))

abs_small : (z : ℤ) → unsigned_abs (int_rem_euclid z (pos 256)) < 256
abs_small (pos a) = omega arith
abs_small (negsuc a) = omega arith

unsigned : (z : ℤ) → int_wrap w8 z ≡ z → unsigned_abs (int_rem_euclid z (pos 256)) ≡ cast_unsigned w8 z
unfolding int_wrap
unsigned z kept = sym (of_z-to_z w8 (unsigned_abs (int_rem_euclid z (pos 256))) (abs_small z)) ∙ ap (cast_unsigned w8) kept

pub byte_reported : (h : LimitedHeap) (r at : ℕ) (z : ℤ) → HasElements h r elements.Byte → element_in h r at ≡ Some z → IsKeptIn (object_in h r) z
    → slice_get (map (cast_unsigned w8) (contents_at h r)) at ≡ Some (unsigned_abs (int_rem_euclid z (pos 256)))
byte_reported h r at z has e kept =
    let own : low_bits elements.Byte z ≡ z = subst (λ (o : Option (Object ℕ)). IsKeptIn o z) has.there kept in
    slice_get-map (cast_unsigned w8) (contents_at h r) at
    ∙ (ap (λ (xs : List ℤ). option_map (cast_unsigned w8) (slice_get xs at)) (contents_are h r elements.Byte has)
    ∙ (ap (option_map (cast_unsigned w8)) (sym (element_is h r at elements.Byte has) ∙ e)
    ∙ ap Some (sym (unsigned z own))))
