-- Arrays that are made.
use Rattle.std.proofs.Common.{◌≡◌, ◌<◌, ◌≤◌, ◌+◌, ℕ, Bool, true, false, ℤ, pos, negsuc, ◌<ℤ◌, ◌≤ℤ◌, List, ◌∷◌, length, replicate, Option, Some, nat_lt, Ok, Err, refl, sym, ap, subst, ◌∙◌, arith}
use Rattle.std.specs.Prelude.{unsigned_abs}
use Rattle.std.proofs.lemmas.Int.{ints}
use Rattle.std.proofs.lemmas.Bool.{lt-ltb, le-ltb}
use Rattle.std.proofs.lemmas.List.{length-replicate}
use Rattle.dj_names.specs.declared.run.Value.{Value}
use Rattle.dj_names.specs.declared.run.Value.TheVariants as values
use Rattle.dj_names.specs.declared.run.Element.{Element}
use Rattle.dj_names.specs.declared.run.Raised.TheVariants as raises
use Rattle.dj_names.specs.declared.run.Outcome.TheVariants as outcomes
use Rattle.dj_names.specs.trusted.Heaps.{Array, Heap, array_size}
use Rattle.dj_model.specs.trusted.State.{Next, Raise}
use Rattle.dj_model.specs.trusted.Arrays.{flows, make_array, make_elements}
use Rattle.dj_heap.specs.Heaps.{LimitedHeap, Makes, Refuses}
use Rattle.dj_heap.specs.declared.errors.HeapError.TheVariants as errors
use Rattle.dj_effects.specs.DoesOnHeap.{FitsOnHeapIn}

pub makes : (old new : LimitedHeap) (class r : ℕ) (element : Element) (z : ℤ) (operands rest after : List Value)
    → operands ≡ values.Int z ∷ rest → pos 0 ≤ℤ z → Makes old new (Array class element (replicate (unsigned_abs z) (pos 0))) r → after ≡ values.Ref r ∷ rest
    → make_array (Some old.limit) class element old.heap operands ≡ Some (flows new.heap after (Ok Next))
unfolding make_array
makes old new class r element (pos n) operands rest after all above made left =
    let sized : old.heap.used + array_size element (length (replicate n (pos 0))) ≤ old.limit = made.fits in
    let within : old.heap.used + array_size element n ≤ old.limit =
    subst (λ (k : ℕ). old.heap.used + array_size element k ≤ old.limit) (length-replicate n (pos 0)) sized in
    let fits : nat_lt old.limit (old.heap.used + array_size element n) ≡ false = le-ltb old.limit (old.heap.used + array_size element n) within in
    ap (make_array (Some old.limit) class element old.heap) all
    ∙ ap Some (ap (λ (b : Bool). make_elements b class element old.heap (values.Int (pos n) ∷ rest) rest n) fits
    ∙ (ap (λ (h : LimitedHeap). flows h.heap (values.Ref (length old.heap.objects + 1) ∷ rest) (Ok Next)) (sym made.heap)
    ∙ (ap (λ (r : ℕ). flows new.heap (values.Ref r ∷ rest) (Ok Next)) (sym made.number)
    ∙ ap (λ (after : List Value). flows new.heap after (Ok Next)) (sym left))))
makes old new class r element (negsuc n) operands rest after all above made left = absurd (omega (arith, ints))

pub made_room : (old new : LimitedHeap) (class r : ℕ) (element : Element) (z : ℤ) (operands rest : List Value) (room : ℕ)
    → operands ≡ values.Int z ∷ rest → pos 0 ≤ℤ z → Makes old new (Array class element (replicate (unsigned_abs z) (pos 0))) r
    → FitsOnHeapIn room (make_array (Some old.limit) class element old.heap operands) → length rest < room
made_room old new class r element z operands rest room all above made fits =
    let left : length (values.Ref r ∷ rest) ≤ room =
    subst (FitsOnHeapIn room) (makes old new class r element z operands rest (values.Ref r ∷ rest) all above made refl) fits in
    omega (arith, left)

pub makes_none : (limit : Option ℕ) (heap : Heap ℕ) (class : ℕ) (element : Element) (z : ℤ) (operands rest : List Value) → operands ≡ values.Int z ∷ rest → z <ℤ pos 0
    → make_array limit class element heap operands ≡ Some (flows heap operands (Ok (Raise raises.NegativeArraySize)))
unfolding make_array
makes_none limit heap class element (pos n) operands rest all below = absurd (omega (arith, ints))
makes_none limit heap class element (negsuc n) operands rest all below =
    ap (make_array limit class element heap) all ∙ ap (λ (operands : List Value). Some (flows heap operands (Ok (Raise raises.NegativeArraySize)))) (sym all)

pub makes_too_large : (h : LimitedHeap) (class used size : ℕ) (element : Element) (z : ℤ) (operands rest : List Value)
    → operands ≡ values.Int z ∷ rest → pos 0 ≤ℤ z → Refuses h (array_size element (unsigned_abs z)) (errors.Full used size)
    → make_array (Some h.limit) class element h.heap operands ≡ Some (flows h.heap operands (Err (outcomes.HeapFull used size)))
unfolding make_array
makes_too_large h class used size element (pos n) operands rest all above cause =
    let past : nat_lt h.limit (h.heap.used + array_size element n) ≡ true = lt-ltb h.limit (h.heap.used + array_size element n) cause.2 in
    ap (make_array (Some h.limit) class element h.heap) all
    ∙ ap Some (ap (λ (b : Bool). make_elements b class element h.heap (values.Int (pos n) ∷ rest) rest n) past
    ∙ (ap (λ (used : ℕ). flows h.heap (values.Int (pos n) ∷ rest) (Err (outcomes.HeapFull used (array_size element n)))) (sym cause.0)
    ∙ (ap (λ (size : ℕ). flows h.heap (values.Int (pos n) ∷ rest) (Err (outcomes.HeapFull used size))) (sym cause.1)
    ∙ ap (λ (operands : List Value). flows h.heap operands (Err (outcomes.HeapFull used size))) (sym all))))
makes_too_large h class used size element (negsuc n) operands rest all above cause = absurd (omega (arith, ints))
