-- Heaps at plain values.
use Rattle.std.proofs.Common.{◌≡◌, ◌+◌, ◌^◌, pos, negsuc, [], ◌∷◌, ◌++◌, map, Some, None, refl, arith}
use Rattle.std.specs.Int.{int_wrap}
use Rattle.dj_names.specs.declared.run.Element.TheVariants as elements
use Rattle.dj_names.specs.trusted.Heaps.{Instance, Array, Text}
use Rattle.dj_heap.specs.declared.errors.HeapError.TheVariants as errors
use Rattle.dj_heap.specs.declared.object.Made.TheVariants as made
use Rattle.dj_heap.specs.Lengths.{object_length}
use Rattle.dj_heap.specs.Calls.{made_as}
use Rattle.dj_heap.specs.Heaps.{LimitedHeap, object_in, field_in, element_in, unit_in, low_bits, IsKeptIn, with_field, with_number, Replaces, Makes, Refuses}

-- an instance of class 7, an array of bytes and a text, whose sizes are 32, 24 and 24
abbrev some : LimitedHeap
some = record {
  heap = record { objects = Instance 7 (5 ∷ 6 ∷ []) ∷ Array 2 elements.Byte (pos 1 ∷ negsuc 1 ∷ pos 3 ∷ []) ∷ Text 3 (65 ∷ 66 ∷ []) ∷ []; used = 80 };
  limit = 100;
}

-- objects count from 1
objects : map (object_in some) (0 ∷ 1 ∷ 3 ∷ 4 ∷ []) ≡ None ∷ Some (Instance 7 (5 ∷ 6 ∷ [])) ∷ Some (Text 3 (65 ∷ 66 ∷ [])) ∷ None ∷ []
objects = refl

fields : map (field_in some 1) (0 ∷ 1 ∷ 2 ∷ []) ≡ Some 5 ∷ Some 6 ∷ None ∷ []
fields = refl

-- an array has no fields, an instance no elements, and an array no units
no_fields : map (λ r. field_in some r 0) (0 ∷ 2 ∷ 3 ∷ []) ≡ None ∷ None ∷ None ∷ []
no_fields = refl

items : map (element_in some 2) (0 ∷ 1 ∷ 3 ∷ []) ≡ Some (pos 1) ∷ Some (negsuc 1) ∷ None ∷ []
items = refl

no_items : map (λ r. element_in some r 0) (1 ∷ 3 ∷ []) ≡ None ∷ None ∷ []
no_items = refl

units : map (unit_in some 3) (0 ∷ 1 ∷ 2 ∷ []) ≡ Some 65 ∷ Some 66 ∷ None ∷ []
units = refl

no_units : map (λ r. unit_in some r 0) (1 ∷ 2 ∷ []) ≡ None ∷ None ∷ []
no_units = refl

lengths : map object_length some.heap.objects ≡ 2 ∷ 3 ∷ 2 ∷ []
lengths = refl

kinds : map made_as some.heap.objects ≡ made.Instance ∷ made.Array elements.Byte ∷ made.Text ∷ []
kinds = refl

-- 200 in a byte is -56, and so is 456; a char has no sign; a reference has 32 bits without sign
kept : map (λ element. low_bits element (pos 200)) (elements.Boolean ∷ elements.Byte ∷ elements.Char ∷ elements.Short ∷ elements.Int ∷ elements.Long ∷ elements.Ref ∷ [])
    ≡ negsuc 55 ∷ negsuc 55 ∷ pos 200 ∷ pos 200 ∷ pos 200 ∷ pos 200 ∷ pos 200 ∷ []
unfolding int_wrap
kept = refl

kept_of_minus_one : map (λ element. low_bits element (negsuc 0)) (elements.Byte ∷ elements.Char ∷ elements.Short ∷ elements.Int ∷ elements.Long ∷ elements.Ref ∷ [])
    ≡ negsuc 0 ∷ pos 65535 ∷ negsuc 0 ∷ negsuc 0 ∷ negsuc 0 ∷ pos 4294967295 ∷ []
unfolding int_wrap
kept_of_minus_one = refl

kept_of_large : map (λ element. low_bits element (pos (2 ^ 32 + 2 ^ 15))) (elements.Byte ∷ elements.Char ∷ elements.Short ∷ elements.Int ∷ elements.Long ∷ elements.Ref ∷ [])
    ≡ pos 0 ∷ pos 32768 ∷ negsuc 32767 ∷ pos 32768 ∷ pos 4295000064 ∷ pos 32768 ∷ []
unfolding int_wrap
kept_of_large = refl

-- a char has no sign
kept_char : IsKeptIn (Some (Array 2 elements.Char [])) (pos 65535)
kept_char = refl

negative_char : IsKeptIn (Some (Array 2 elements.Char [])) (negsuc 0) → ⊥
negative_char e = absurd cc

-- a write changes one place
written_field : with_field (Instance 7 (5 ∷ 6 ∷ [])) 1 9 ≡ Instance 7 (5 ∷ 9 ∷ [])
written_field = refl

written_item : with_number (Array 2 elements.Byte (pos 1 ∷ pos 2 ∷ pos 3 ∷ [])) 1 (pos 456) ≡ Array 2 elements.Byte (pos 1 ∷ negsuc 55 ∷ pos 3 ∷ [])
unfolding int_wrap
written_item = refl

one_changes : Replaces some (record { heap = record { objects = Instance 7 (5 ∷ 9 ∷ []) ∷ Array 2 elements.Byte (pos 1 ∷ negsuc 1 ∷ pos 3 ∷ []) ∷ Text 3 (65 ∷ 66 ∷ []) ∷ []; used = 80 }; limit = 100 }) 1 (λ object. with_field object 1 9)
one_changes object is = let same : Instance 7 (5 ∷ 6 ∷ []) ≡ object = cc in cc

-- 16 bytes more fit, and 24 don't
fits : Makes some (record { heap = record { objects = some.heap.objects ++ Array 2 elements.Byte [] ∷ []; used = 96 }; limit = 100 }) (Array 2 elements.Byte []) 4
fits = record { fits = omega arith; number = refl; heap = refl }

full : Refuses some 24 (errors.Full 80 24)
full = (refl, refl, omega arith)

not_full : Refuses some 20 (errors.Full 80 20) → ⊥
not_full cause = let past = cause.2 in omega (arith, past)

other_numbers : Refuses some 24 (errors.Full 24 80) → ⊥
other_numbers cause = let used = cause.0 in omega (arith, used)
