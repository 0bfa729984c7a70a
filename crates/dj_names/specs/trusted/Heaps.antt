-- The objects of the heap (JVMS 2.4 and 2.7). C is what says the class of an object: a type or a number.
use Rattle.std.specs.Prelude.{ℕ, ◌+◌, ◌-◌, ◌*◌, ◌/◌, ◌%◌, ◌^◌, Bool, true, false, ℤ, pos, negsuc, List, [], ◌∷◌, ◌++◌, length, set, Option, None, slice_get, unsigned_abs, nat_eq, if◌then◌else◌}
use Rattle.std.specs.Int.{w8, w16, w32, w64, cast_signed, cast_unsigned, int_wrap, int_rem_euclid}
use Rattle.dj_names.specs.declared.descriptor.Kind.{Kind}
use Rattle.dj_names.specs.declared.descriptor.Kind.TheVariants as kinds
use Rattle.dj_names.specs.declared.run.Value.{Value}
use Rattle.dj_names.specs.declared.run.Value.TheVariants as values
use Rattle.dj_names.specs.declared.run.Element.{Element}
use Rattle.dj_names.specs.declared.run.Element.TheVariants as elements
use Rattle.dj_names.specs.trusted.Values.{element_size}

pub data Object (C : Type 0) : Type 0 where
  -- an instance of the class, with the 64 bits of each field, those of the highest superclass first
  Instance : C → List ℕ → Object C
  -- an array of the class, with its elements; a reference is an element as its number
  Array : C → Element → List ℤ → Object C
  -- a text of these UTF-16 units, of the class of texts
  Text : C → List ℕ → Object C

-- the objects in the order in which they were made. The number of the first is 1; a reference is an object's number, and 0 is null
pub record Heap (C : Type 0) : Type 0 where
  pub objects : List (Object C)
  -- the bytes that the objects take together
  pub used : ℕ

abbrev pub class_of : {C : Type 0} → Object C → C
class_of (Instance class fields) = class
class_of (Array class element contents) = class
class_of (Text class units) = class

-- ---- values as bits and as numbers

-- an int as 64 bits with its sign, and a reference as its number
abbrev pub field_bits : Value → ℕ
field_bits (values.Int z) = cast_unsigned w64 z
field_bits (values.Long z) = cast_unsigned w64 z
field_bits (values.Ref r) = r

abbrev pub field_value : Kind → ℕ → Value
field_value kinds.Int n = values.Int (int_wrap w32 (pos n))
field_value kinds.Long n = values.Long (cast_signed w64 n)
field_value kinds.Ref n = values.Ref (n % 2 ^ 32)

abbrev pub value_number : Value → ℤ
value_number (values.Int z) = z
value_number (values.Long z) = z
value_number (values.Ref r) = pos r

abbrev pub number_value : Kind → ℤ → Value
number_value kinds.Int z = values.Int z
number_value kinds.Long z = values.Long z
number_value kinds.Ref z = values.Ref (unsigned_abs z)

-- ---- elements

abbrev pub same_element : Element → Element → Bool
same_element elements.Boolean elements.Boolean = true
same_element elements.Byte elements.Byte = true
same_element elements.Char elements.Char = true
same_element elements.Short elements.Short = true
same_element elements.Int elements.Int = true
same_element elements.Long elements.Long = true
same_element elements.Ref elements.Ref = true
same_element _ _ = false

-- an element as a value
abbrev pub element_value : Element → ℤ → Value
element_value elements.Long z = values.Long z
element_value elements.Ref z = values.Ref (unsigned_abs z)
element_value _ z = values.Int z

-- what an element keeps of a number: its low bits, with a sign except in an array of chars
abbrev pub kept : Element → ℤ → ℤ
kept elements.Boolean z = int_wrap w8 z
kept elements.Byte z = int_wrap w8 z
kept elements.Char z = int_rem_euclid z (pos (2 ^ 16))
kept elements.Short z = int_wrap w16 z
kept elements.Int z = int_wrap w32 z
kept elements.Long z = int_wrap w64 z
kept elements.Ref z = z

-- JVMS 6.5: none where the index is negative or not below the length
abbrev pub element_at : List ℤ → ℤ → Option ℤ
element_at contents (pos i) = slice_get contents i
element_at contents (negsuc i) = None

abbrev pub with_element : List ℤ → ℤ → ℤ → List ℤ
with_element contents (pos i) z = set contents i z
with_element contents (negsuc i) z = contents

-- ---- sizes

-- rounded up to a multiple of 8
abbrev pub rounded : ℕ → ℕ
rounded n = (n + 7) / 8 * 8

abbrev pub instance_size : ℕ → ℕ
instance_size fields = 16 + 8 * fields

abbrev pub array_size : Element → ℕ → ℕ
array_size element n = 16 + rounded (n * element_size element)

abbrev pub text_size : List ℕ → ℕ
text_size units = 16 + rounded (2 * length units)

abbrev pub object_size : {C : Type 0} → Object C → ℕ
object_size (Instance class fields) = instance_size (length fields)
object_size (Array class element contents) = array_size element (length contents)
object_size (Text class units) = text_size units

-- ---- the heap

abbrev pub object_at : {C : Type 0} → List (Object C) → ℕ → Option (Object C)
object_at objects r = if nat_eq r 0 then None else slice_get objects (r - 1)

-- the heap with one more object
abbrev pub with_new : {C : Type 0} → Heap C → Object C → Heap C
with_new heap object = record { objects = heap.objects ++ object ∷ []; used = heap.used + object_size object }

-- the number that the next object gets
abbrev pub next_number : {C : Type 0} → Heap C → ℕ
next_number heap = length heap.objects + 1

-- the heap with another object of this number
abbrev pub with_object : {C : Type 0} → Heap C → ℕ → Object C → Heap C
with_object heap r object = record heap { objects = set heap.objects (r - 1) object }
