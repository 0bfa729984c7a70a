-- What is said of effects on arrays, at plain values.
use Rattle.std.proofs.Common.{◌≡◌, ◌^◌, ℕ, Bool, true, false, ℤ, pos, negsuc, List, [], ◌∷◌, map, Option, Some, None, nat_eq, Result, Ok, Err, refl, ap, arith}
use Rattle.std.specs.Int.{int_wrap}
use Rattle.dj_names.specs.declared.run.Value.{Value}
use Rattle.dj_names.specs.declared.run.Value.TheVariants as values
use Rattle.dj_names.specs.declared.run.Element.TheVariants as elements
use Rattle.dj_names.specs.declared.run.Raised.TheVariants as raises
use Rattle.dj_names.specs.declared.run.Outcome.{Outcome}
use Rattle.dj_names.specs.declared.run.Outcome.TheVariants as outcomes
use Rattle.dj_names.specs.trusted.Heaps.{Object, Array}
use Rattle.dj_model.specs.trusted.Instructions as model
use Rattle.dj_model.specs.trusted.State as states
use Rattle.dj_model.specs.trusted.State.{Next, Raise}
use Rattle.dj_model.specs.trusted.Arrays.{Null, NoArray, IsArray, OnHeap, flows, array_length, load_element, make_array, store_element}
use Rattle.dj_heap.specs.Heaps.{LimitedHeap}
use Rattle.dj_stack.specs.Frames.{StackFrame}
use Rattle.dj_effects.specs.declared.way.Way.TheVariants as ways
use Rattle.dj_effects.specs.declared.way.Flow.TheVariants as goes
use Rattle.dj_effects.specs.Arrays.{array_reported, outside, place_at, place_of, takes_value, value_of}
use Rattle.dj_effects.specs.DoesOnHeap.{DoesOnHeap, FitsOnHeap, IsTakenSo}
use Rattle.dj_effects.specs.Tops.{has_place, IsPlaceTop, IsTop}

-- ---- places

-- null is asked first, then the elements, and at last the index
places : map (λ found. place_of model.Bytes (pos 5) (array_reported found))
    (Null ∷ NoArray ∷ IsArray 2 elements.Char (pos 1 ∷ []) ∷ IsArray 2 elements.Byte (pos 1 ∷ []) ∷ [])
    ≡ Err (goes.Goes (ways.Raise raises.NullPointer)) ∷ Err goes.Link ∷ Err goes.Link ∷ Err outside ∷ []
places = refl

-- a negative index is outside, and so is the length
indexes : map (place_at (elements.Int, 2)) (negsuc 0 ∷ pos 0 ∷ pos 1 ∷ pos 2 ∷ [])
    ≡ Err outside ∷ Ok (elements.Int, 0) ∷ Ok (elements.Int, 1) ∷ Err outside ∷ []
indexes = refl

numbers : map (value_of elements.Byte) (negsuc 0 ∷ pos 127 ∷ []) ≡ values.Int (negsuc 0) ∷ values.Int (pos 127) ∷ []
unfolding int_wrap
numbers = refl

others : value_of elements.Long (pos (2 ^ 40)) ∷ value_of elements.Ref (pos 7) ∷ value_of elements.Char (pos 65535) ∷ []
    ≡ values.Long (pos (2 ^ 40)) ∷ values.Ref 7 ∷ values.Int (pos 65535) ∷ []
unfolding int_wrap
others = refl

taken : takes_value (values.Ref 3) false ∷ takes_value (values.Ref 3) true ∷ takes_value (values.Int (pos 3)) false ∷ [] ≡ false ∷ true ∷ true ∷ []
taken = refl

-- ---- tops

tops : IsTop (Some (values.Ref 2)) (values.Ref 2 ∷ values.Ref 3 ∷ []) (values.Ref 3 ∷ [])
tops = refl

no_top : IsTop None (values.Ref 2 ∷ []) [] → ⊥
no_top e = let some = e.0 in absurd cc

placed : IsPlaceTop (Some (pos 4, 2)) (values.Int (pos 4) ∷ values.Ref 2 ∷ []) []
placed = refl

not_placed : IsPlaceTop None (values.Int (pos 4) ∷ values.Ref 2 ∷ []) [] → ⊥
not_placed e = absurd cc

places_reported : map has_place ((values.Int (pos 4) ∷ values.Ref 2 ∷ []) ∷ (values.Ref 2 ∷ values.Int (pos 4) ∷ []) ∷ (values.Int (pos 4) ∷ []) ∷ [])
    ≡ true ∷ false ∷ false ∷ []
places_reported = refl

-- ---- effects

abbrev frames : List Value → List StackFrame
frames operands = record { method = 3; number = 7; locals = []; operands = operands; room = 3 } ∷ []

-- with an array of two bytes
abbrev heap : ℤ → LimitedHeap
heap z = record { heap = record { objects = Array 2 elements.Byte (pos 1 ∷ z ∷ []) ∷ []; used = 24 }; limit = 40 }

abbrev operands_reported : Option (OnHeap ℕ) → List Value
operands_reported None = []
operands_reported (Some e) = e.operands

-- the elements of the first object
abbrev first_elements : List (Object ℕ) → List ℤ
first_elements (Array class element contents ∷ rest) = contents
first_elements objects = []

abbrev elements_reported : Option (OnHeap ℕ) → List ℤ
elements_reported None = []
elements_reported (Some e) = first_elements e.heap.objects

abbrev result_reported : Option (OnHeap ℕ) → Result states.Way Outcome
result_reported None = Ok Next
result_reported (Some e) = e.result

loaded : DoesOnHeap (load_element model.Bytes) (frames (values.Int (pos 1) ∷ values.Ref 1 ∷ [])) (frames (values.Int (negsuc 5) ∷ [])) (heap (negsuc 5)) (heap (negsuc 5))
    (Some (goes.Goes ways.Next))
unfolding load_element
loaded = record { effect = refl; limit = refl; frames = record { frames = record { count = refl; method = refl; room = refl; below = refl }; number = refl; locals = refl } }

loaded_without_sign_apart : Some (flows (heap (negsuc 5)).heap (values.Int (negsuc 5) ∷ []) (Ok Next)) ≡ Some (flows (heap (negsuc 5)).heap (values.Int (pos 250) ∷ []) (Ok Next)) → ⊥
loaded_without_sign_apart e = let same : values.Int (negsuc 5) ∷ [] ≡ values.Int (pos 250) ∷ [] = ap operands_reported e in absurd cc

loaded_without_sign : DoesOnHeap (load_element model.Bytes) (frames (values.Int (pos 1) ∷ values.Ref 1 ∷ [])) (frames (values.Int (pos 250) ∷ [])) (heap (negsuc 5)) (heap (negsuc 5))
    (Some (goes.Goes ways.Next)) → ⊥
unfolding load_element
loaded_without_sign does = loaded_without_sign_apart does.effect

-- the heap is compared too
changed_apart : Some (flows (heap (negsuc 5)).heap (values.Int (negsuc 5) ∷ []) (Ok Next)) ≡ Some (flows (heap (pos 0)).heap (values.Int (negsuc 5) ∷ []) (Ok Next)) → ⊥
changed_apart e = let same : pos 1 ∷ negsuc 5 ∷ [] ≡ pos 1 ∷ pos 0 ∷ [] = ap elements_reported e in absurd cc

changed : DoesOnHeap (load_element model.Bytes) (frames (values.Int (pos 1) ∷ values.Ref 1 ∷ [])) (frames (values.Int (negsuc 5) ∷ [])) (heap (negsuc 5)) (heap (pos 0))
    (Some (goes.Goes ways.Next)) → ⊥
unfolding load_element
changed does = changed_apart does.effect

-- and its limit
other_limit : DoesOnHeap (load_element model.Bytes) (frames (values.Int (pos 1) ∷ values.Ref 1 ∷ [])) (frames (values.Int (negsuc 5) ∷ [])) (heap (negsuc 5)) (record (heap (negsuc 5)) { limit = 41 })
    (Some (goes.Goes ways.Next)) → ⊥
other_limit does = let e = does.limit in omega (arith, e)

-- a byte keeps the low 8 bits of 300
stored : DoesOnHeap (store_element (λ r v. false) model.Bytes) (frames (values.Int (pos 300) ∷ values.Int (pos 1) ∷ values.Ref 1 ∷ [])) (frames []) (heap (pos 7)) (heap (pos 44))
    (Some (goes.Goes ways.Next))
unfolding store_element int_wrap
stored = record { effect = refl; limit = refl; frames = record { frames = record { count = refl; method = refl; room = refl; below = refl }; number = refl; locals = refl } }

stored_whole_apart : Some (flows (heap (pos 44)).heap ([]) (Ok Next)) ≡ Some (flows (heap (pos 300)).heap ([]) (Ok Next)) → ⊥
stored_whole_apart e = let same : pos 1 ∷ pos 44 ∷ [] ≡ pos 1 ∷ pos 300 ∷ [] = ap elements_reported e in absurd cc

stored_whole : DoesOnHeap (store_element (λ r v. false) model.Bytes) (frames (values.Int (pos 300) ∷ values.Int (pos 1) ∷ values.Ref 1 ∷ [])) (frames []) (heap (pos 7)) (heap (pos 300))
    (Some (goes.Goes ways.Next)) → ⊥
unfolding store_element int_wrap
stored_whole does = stored_whole_apart does.effect

-- where it doesn't just go on, the heap is as before
stored_outside_apart : Some (flows (heap (pos 7)).heap (values.Int (pos 9) ∷ values.Int (negsuc 0) ∷ values.Ref 1 ∷ []) (Ok (Raise raises.ArrayIndexOutOfBounds))) ≡ Some (flows (heap (pos 9)).heap (values.Int (pos 9) ∷ values.Int (negsuc 0) ∷ values.Ref 1 ∷ []) (Ok (Raise raises.ArrayIndexOutOfBounds))) → ⊥
stored_outside_apart e = let same : pos 1 ∷ pos 7 ∷ [] ≡ pos 1 ∷ pos 9 ∷ [] = ap elements_reported e in absurd cc

stored_outside : DoesOnHeap (store_element (λ r v. false) model.Bytes) (frames (values.Int (pos 9) ∷ values.Int (negsuc 0) ∷ values.Ref 1 ∷ [])) (frames []) (heap (pos 7)) (heap (pos 9))
    (Some (goes.Goes (ways.Raise raises.ArrayIndexOutOfBounds))) → ⊥
unfolding store_element
stored_outside does = stored_outside_apart does.effect

-- null before the index
null_first_apart : Some (flows (heap (pos 7)).heap (values.Int (pos 9) ∷ values.Int (negsuc 0) ∷ values.Ref 0 ∷ []) (Ok (Raise raises.NullPointer))) ≡ Some (flows (heap (pos 7)).heap (values.Int (pos 9) ∷ values.Int (negsuc 0) ∷ values.Ref 0 ∷ []) (Ok (Raise raises.ArrayIndexOutOfBounds))) → ⊥
null_first_apart e = let same : ◌≡◌ {A = Result states.Way Outcome} (Ok (Raise raises.NullPointer)) (Ok (Raise raises.ArrayIndexOutOfBounds)) = ap result_reported e in absurd cc

null_first : DoesOnHeap (store_element (λ r v. false) model.Bytes) (frames (values.Int (pos 9) ∷ values.Int (negsuc 0) ∷ values.Ref 0 ∷ [])) (frames []) (heap (pos 7)) (heap (pos 7))
    (Some (goes.Goes (ways.Raise raises.ArrayIndexOutOfBounds))) → ⊥
unfolding store_element
null_first does = null_first_apart does.effect

full : DoesOnHeap (make_array (Some 40) 5 elements.Int) (frames (values.Int (pos 1) ∷ [])) (frames []) (heap (pos 7)) (heap (pos 7)) (Some (goes.HeapFull 24 24))
unfolding make_array
full = record { effect = refl; limit = refl; frames = record { frames = record { count = refl; method = refl; room = refl; below = refl }; number = refl; locals = refl } }

full_by_another_size_apart : Some (flows (heap (pos 7)).heap (values.Int (pos 1) ∷ []) (Err (outcomes.HeapFull 24 24))) ≡ Some (flows (heap (pos 7)).heap (values.Int (pos 1) ∷ []) (Err (outcomes.HeapFull 24 20))) → ⊥
full_by_another_size_apart e = let same : ◌≡◌ {A = Result states.Way Outcome} (Err (outcomes.HeapFull 24 24)) (Err (outcomes.HeapFull 24 20)) = ap result_reported e in absurd cc

full_by_another_size : DoesOnHeap (make_array (Some 40) 5 elements.Int) (frames (values.Int (pos 1) ∷ [])) (frames []) (heap (pos 7)) (heap (pos 7)) (Some (goes.HeapFull 24 20)) → ⊥
unfolding make_array
full_by_another_size does = full_by_another_size_apart does.effect

negative_apart : Some (flows (heap (pos 7)).heap (values.Int (negsuc 0) ∷ []) (Ok (Raise raises.NegativeArraySize))) ≡ Some (flows (heap (pos 7)).heap (values.Int (negsuc 0) ∷ []) (Err (outcomes.HeapFull 24 24))) → ⊥
negative_apart e = let same : ◌≡◌ {A = Result states.Way Outcome} (Ok (Raise raises.NegativeArraySize)) (Err (outcomes.HeapFull 24 24)) = ap result_reported e in absurd cc

negative : DoesOnHeap (make_array (Some 40) 5 elements.Int) (frames (values.Int (negsuc 0) ∷ [])) (frames []) (heap (pos 7)) (heap (pos 7)) (Some (goes.HeapFull 24 24)) → ⊥
unfolding make_array
negative does = negative_apart does.effect

-- ---- room

fits : FitsOnHeap array_length (frames (values.Ref 1 ∷ values.Ref 1 ∷ values.Ref 1 ∷ [])) (heap (pos 7))
unfolding array_length
fits = omega arith

too_many : FitsOnHeap array_length (frames (values.Ref 1 ∷ values.Ref 1 ∷ values.Ref 1 ∷ values.Ref 1 ∷ [])) (heap (pos 7)) → ⊥
unfolding array_length
too_many e = omega (arith, e)

-- ---- whether an array takes a reference

abbrev takes_itself : ℕ → ℕ → Bool
takes_itself r v = nat_eq r v

reported : IsTakenSo takes_itself (values.Ref 4 ∷ values.Int (pos 0) ∷ values.Ref 4 ∷ []) true
reported = refl

reported_wrong : IsTakenSo takes_itself (values.Ref 4 ∷ values.Int (pos 0) ∷ values.Ref 5 ∷ []) true → ⊥
reported_wrong e = absurd cc

-- for a number nothing has to hold
reported_nothing : IsTakenSo takes_itself (values.Int (pos 4) ∷ values.Int (pos 0) ∷ values.Ref 5 ∷ []) true
reported_nothing = tt
