-- Values as bits, elements, and sizes, by plain values.
use Rattle.std.proofs.Common.{◌≡◌, true, false, pos, negsuc, ℕ, List, [], ◌∷◌, map, Some, None, codes, refl}
use Rattle.std.specs.Int.{int_wrap}
use Rattle.dj_names.specs.declared.descriptor.Kind.TheVariants as kinds
use Rattle.dj_names.specs.declared.run.Value.TheVariants as values
use Rattle.dj_names.specs.declared.run.Element.{Element}
use Rattle.dj_names.specs.declared.run.Element.TheVariants as elements
use Rattle.dj_names.specs.trusted.Heaps.{Object, Instance, Array, Text, object_size, field_bits, field_value, element_value, element_at, with_element, object_at, next_number, same_element}

-- an int stands as 64 bits with its sign
bits : map field_bits (values.Int (pos 5) ∷ values.Int (negsuc 0) ∷ values.Long (negsuc 0) ∷ values.Long (pos 7) ∷ values.Ref 9 ∷ [])
    ≡ 5 ∷ 18446744073709551615 ∷ 18446744073709551615 ∷ 7 ∷ 9 ∷ []
bits = refl

values_of_bits : field_value kinds.Int 18446744073709551615 ∷ field_value kinds.Int 4294967295 ∷ field_value kinds.Int 5 ∷ field_value kinds.Long 18446744073709551615 ∷ field_value kinds.Long 4294967295 ∷ field_value kinds.Ref 9 ∷ []
    ≡ values.Int (negsuc 0) ∷ values.Int (negsuc 0) ∷ values.Int (pos 5) ∷ values.Long (negsuc 0) ∷ values.Long (pos 4294967295) ∷ values.Ref 9 ∷ []
unfolding int_wrap
values_of_bits = refl

-- a reference has the low 32 bits of a field
references_of_bits : map (field_value kinds.Ref) (65537 ∷ 4294967295 ∷ 4294967297 ∷ []) ≡ values.Ref 65537 ∷ values.Ref 4294967295 ∷ values.Ref 1 ∷ []
references_of_bits = refl

abbrev each : List Element
each = elements.Boolean ∷ elements.Byte ∷ elements.Char ∷ elements.Short ∷ elements.Int ∷ elements.Long ∷ elements.Ref ∷ []

values_of_elements : map (λ element. element_value element (pos 5)) each
    ≡ values.Int (pos 5) ∷ values.Int (pos 5) ∷ values.Int (pos 5) ∷ values.Int (pos 5) ∷ values.Int (pos 5) ∷ values.Long (pos 5) ∷ values.Ref 5 ∷ []
values_of_elements = refl

same_elements : map (λ a. map (same_element a) each) each
    ≡ (true ∷ false ∷ false ∷ false ∷ false ∷ false ∷ false ∷ []) ∷ (false ∷ true ∷ false ∷ false ∷ false ∷ false ∷ false ∷ [])
    ∷ (false ∷ false ∷ true ∷ false ∷ false ∷ false ∷ false ∷ []) ∷ (false ∷ false ∷ false ∷ true ∷ false ∷ false ∷ false ∷ [])
    ∷ (false ∷ false ∷ false ∷ false ∷ true ∷ false ∷ false ∷ []) ∷ (false ∷ false ∷ false ∷ false ∷ false ∷ true ∷ false ∷ [])
    ∷ (false ∷ false ∷ false ∷ false ∷ false ∷ false ∷ true ∷ []) ∷ []
same_elements = refl

-- 16 bytes, and what it holds rounded up to 8
sizes : map (λ element. object_size {C = ℕ} (Array 0 element (pos 0 ∷ pos 0 ∷ pos 0 ∷ []))) each ≡ 24 ∷ 24 ∷ 24 ∷ 24 ∷ 32 ∷ 40 ∷ 32 ∷ []
sizes = refl

other_sizes : map (λ (o : Object ℕ). object_size o) (Instance 0 [] ∷ Instance 0 (1 ∷ 2 ∷ []) ∷ Text 0 [] ∷ Text 0 (codes "a") ∷ Text 0 (codes "abcd") ∷ Text 0 (codes "abcde") ∷ Array 0 elements.Byte [] ∷ [])
    ≡ 16 ∷ 32 ∷ 16 ∷ 24 ∷ 24 ∷ 32 ∷ 16 ∷ []
other_sizes = refl

-- objects count from 1
objects : map (object_at {C = ℕ} (Text 7 [] ∷ Instance 8 [] ∷ [])) (0 ∷ 1 ∷ 2 ∷ 3 ∷ []) ≡ None ∷ Some (Text 7 []) ∷ Some (Instance 8 []) ∷ None ∷ []
objects = refl

numbers : next_number {C = ℕ} (record { objects = Text 7 [] ∷ Instance 8 [] ∷ []; used = 0 }) ≡ 3
numbers = refl

elements_by_index : map (element_at (pos 5 ∷ pos 6 ∷ [])) (negsuc 0 ∷ pos 0 ∷ pos 1 ∷ pos 2 ∷ []) ≡ None ∷ Some (pos 5) ∷ Some (pos 6) ∷ None ∷ []
elements_by_index = refl

set_elements : with_element (pos 5 ∷ pos 6 ∷ []) (pos 1) (pos 9) ∷ with_element (pos 5 ∷ pos 6 ∷ []) (pos 2) (pos 9) ∷ with_element (pos 5 ∷ pos 6 ∷ []) (negsuc 0) (pos 9) ∷ []
    ≡ (pos 5 ∷ pos 9 ∷ []) ∷ (pos 5 ∷ pos 6 ∷ []) ∷ (pos 5 ∷ pos 6 ∷ []) ∷ []
set_elements = refl
