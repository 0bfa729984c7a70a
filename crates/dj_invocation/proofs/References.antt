-- References that are null or those of objects.
use Rattle.std.proofs.Common.{◌≡◌, ◌<◌, ◌≤◌, ℕ, zero, suc, ◌+◌, ◌-◌, Bool, false, nat_eq, if◌then◌else◌, List, [], ◌∷◌, length, take, Some, None, refl, sym, ap, subst, ◌∙◌, arith, inl, inr}
use Rattle.std.specs.Prelude.{slice_get}
use Rattle.std.proofs.lemmas.List.Elements.{All-weaker}
use Rattle.std.proofs.lemmas.Bool.{cases_lt}
use Rattle.std.proofs.lemmas.Option.{none-some, same_Some, slice_get_within}
use Rattle.dj_names.specs.declared.run.Value.{Value}
use Rattle.dj_names.specs.declared.run.Value.TheVariants as values
use Rattle.dj_names.specs.trusted.Heaps.{Object, Heap, class_of}
use Rattle.dj_heap.specs.Heaps.{LimitedHeap}
use Rattle.dj_effects.proofs.ArrayFacts.{not_null}
use Rattle.dj_natives.specs.Known.{IsKnown, AreKnown}
use Rattle.dj_numbering.specs.Typed.{types_of}
use Rattle.dj_image.specs.Imaged.{Imaged, typed_of}
use Rattle.dj_invocation.specs.Receivers.{AreNumbered, AreObjects, HasObject, IsObject}
use Rattle.dj_invocation.proofs.OperandFacts.{within_take}

-- ---- objects

pub known_numbered : (imaged : Imaged) (h : LimitedHeap) → AreKnown (types_of (typed_of imaged)) h → AreNumbered imaged h.heap
known_numbered imaged h known =
    All-weaker (IsKnown (types_of (typed_of imaged))) (λ (object : Object ℕ). class_of object < length (types_of (typed_of imaged))) (λ object is. is.class)
    h.heap.objects known

object_is : (objects : List (Object ℕ)) (i : ℕ) → i < length objects → slice_get objects i ≡ None → ⊥
object_is [] i less none = absurd (omega (arith, less))
object_is (x ∷ objects) zero less none = none-some x (sym none)
object_is (x ∷ objects) (suc i) less none = object_is objects i (omega (arith, less)) none

pub object_within : (heap : Heap ℕ) (r : ℕ) → r ≤ length heap.objects → IsObject heap r
object_within heap r within none = elim (cases_lt 0 r) [
  | inl some ↦ let is : nat_eq r 0 ≡ false = not_null r (λ e. omega (arith, e, some)) in
      absurd (object_is heap.objects (r - 1) (omega (arith, some, within)) (sym (ap (λ (b : Bool). if b then None else slice_get heap.objects (r - 1)) is) ∙ none))
  | inr null ↦ omega (arith, null)
]

-- ---- values

pub reference_has : (heap : Heap ℕ) (v : Value) (r : ℕ) → v ≡ values.Ref r → IsObject heap r → HasObject heap v
reference_has heap v r e object = subst (HasObject heap) (sym e) object

pub other_has : (heap : Heap ℕ) (v : Value) → ((r : ℕ) → v ≡ values.Ref r → ⊥) → HasObject heap v
other_has heap (values.Int z) other = tt
other_has heap (values.Long z) other = tt
other_has heap (values.Ref r) other = absurd (other r refl)

-- ---- upper operands

take_few : {A : Type 0} (n : ℕ) (xs : List A) → length (take n xs) ≤ n
take_few zero xs = omega arith
take_few (suc n) [] = omega arith
take_few (suc n) (x ∷ xs) = let few = take_few n xs in omega (arith, few)

pub one_more_there : (heap : Heap ℕ) (operands : List Value) (at : ℕ) (v : Value) → slice_get operands at ≡ Some v → HasObject heap v → AreObjects heap (take at operands)
    → AreObjects heap (take (at + 1) operands)
one_more_there heap operands at v there has before i w is = elim (cases_lt i at) [
  | inl less ↦ before i w (within_take operands at i less ∙ here)
  | inr past ↦ let same : at ≡ i = omega (arith, past, within) in
      subst (HasObject heap) (same_Some v w (sym there ∙ (ap (λ (k : ℕ). slice_get operands k) same ∙ here))) has
] where
  within : i < at + 1
  within =
      let less = slice_get_within (take (at + 1) operands) i w is in
      let few = take_few (at + 1) operands in
      omega (arith, less, few)

  here : slice_get operands i ≡ Some w
  here = sym (within_take operands (at + 1) i within) ∙ is

pub none_taken : (heap : Heap ℕ) (operands : List Value) → AreObjects heap (take 0 operands)
none_taken heap operands i v is = absurd (none-some v is)

pub object_among : (heap : Heap ℕ) (operands : List Value) (count at : ℕ) (v : Value) → AreObjects heap (take count operands) → at < count → slice_get operands at ≡ Some v → HasObject heap v
object_among heap operands count at v are less is = are at v (within_take operands count at less ∙ is)
