-- Base types one by one: their letters, kinds, slots and sameness, and what their elements keep and take (JVMS tables 4.3-A and 6.5.newarray-A, 2.11.1).
use Rattle.std.proofs.Common.{◌≡◌, ℕ, ℤ, pos, negsuc, true, false, List, [], ◌∷◌, ◌++◌, map, Some, None, codes, refl}
use Rattle.std.specs.Int.{int_wrap}
use Rattle.dj_names.specs.declared.descriptor.Base.{Base}
use Rattle.dj_names.specs.declared.descriptor.Base.TheVariants as bases
use Rattle.dj_names.specs.declared.descriptor.Of.TheVariants as ofs
use Rattle.dj_names.specs.declared.descriptor.Ty.{Ty}
use Rattle.dj_names.specs.declared.descriptor.Desc.{Desc}
use Rattle.dj_names.specs.declared.descriptor.Desc.TheVariants as descs
use Rattle.dj_names.specs.declared.descriptor.Kind.TheVariants as kinds
use Rattle.dj_names.specs.declared.run.Value.TheVariants as values
use Rattle.dj_names.specs.declared.run.Element.{Element}
use Rattle.dj_names.specs.declared.run.Element.TheVariants as elements
use Rattle.dj_names.specs.trusted.Descriptors.{desc_text, type_slots, type_kind}
use Rattle.dj_names.specs.trusted.DescReading.{base_at}
use Rattle.dj_names.specs.trusted.Types.{same_base, same_type, same_desc, class_type, array_type, base_type, base_array, component_type, parameters_of, field_kind}
use Rattle.dj_names.specs.Types.{result_of, desc_map, in_sandbox}
use Rattle.dj_names.specs.trusted.Heaps.{instance_size, array_size, text_size, kept, field_value, value_number, number_value, class_of, Object, Instance, Array, Text}
use Rattle.dj_names.specs.Heaps.{object_map}

abbrev each : List Base
each = bases.Boolean ∷ bases.Byte ∷ bases.Char ∷ bases.Short ∷ bases.Int ∷ bases.Long ∷ bases.Float ∷ bases.Double ∷ []

-- ---- letters and texts

-- each letter, those next to them, and the letters of a class, an array and a result
letters_read : map base_at (codes "ZBCSIJFDAEHKLVYz[") ≡ map Some each
    ++ None ∷ None ∷ None ∷ None ∷ None ∷ None ∷ None ∷ None ∷ None ∷ []
letters_read = refl

field_texts : map (λ base. desc_text (descs.Field (base_type base))) each ≡ codes "Z" ∷ codes "B" ∷ codes "C" ∷ codes "S" ∷ codes "I" ∷ codes "J" ∷ codes "F" ∷ codes "D" ∷ []
field_texts = refl

array_texts : map (λ base. desc_text (descs.Field (base_array base))) each ≡ codes "[Z" ∷ codes "[B" ∷ codes "[C" ∷ codes "[S" ∷ codes "[I" ∷ codes "[J" ∷ codes "[F" ∷ codes "[D" ∷ []
array_texts = refl

-- ---- kinds and slots

-- JVMS table 2.11.1-B: a boolean, a byte, a char and a short are ints; a float and a double are of no kind
type_kinds : map (λ base. type_kind (base_type base)) each
    ≡ Some kinds.Int ∷ Some kinds.Int ∷ Some kinds.Int ∷ Some kinds.Int ∷ Some kinds.Int ∷ Some kinds.Long ∷ None ∷ None ∷ []
type_kinds = refl

-- an array is a reference, of whatever base type, and so is a class whose name is a letter
reference_kinds : map (λ base. type_kind (base_array base)) each ++ type_kind (class_type (codes "F")) ∷ type_kind (array_type (class_type (codes "D"))) ∷ []
    ≡ Some kinds.Ref ∷ Some kinds.Ref ∷ Some kinds.Ref ∷ Some kinds.Ref ∷ Some kinds.Ref ∷ Some kinds.Ref ∷ Some kinds.Ref ∷ Some kinds.Ref ∷ Some kinds.Ref ∷ Some kinds.Ref ∷ []
reference_kinds = refl

-- of a field, and none of a method
field_kinds : map (λ base. field_kind (descs.Field (base_type base))) each ++ field_kind (descs.Field (class_type (codes "J"))) ∷ field_kind (descs.Method [] (Some (base_type bases.Int))) ∷ []
    ≡ Some kinds.Int ∷ Some kinds.Int ∷ Some kinds.Int ∷ Some kinds.Int ∷ Some kinds.Int ∷ Some kinds.Long ∷ None ∷ None ∷ Some kinds.Ref ∷ None ∷ []
field_kinds = refl

slots : map (λ base. type_slots (base_type base)) each ++ map (λ base. type_slots (base_array base)) each ++ type_slots (class_type (codes "J")) ∷ []
    ≡ 1 ∷ 1 ∷ 1 ∷ 1 ∷ 1 ∷ 2 ∷ 1 ∷ 2 ∷ 1 ∷ 1 ∷ 1 ∷ 1 ∷ 1 ∷ 1 ∷ 1 ∷ 1 ∷ 1 ∷ []
slots = refl

-- ---- which are the same

same_bases : map (λ a. map (same_base a) each) each
    ≡ (true ∷ false ∷ false ∷ false ∷ false ∷ false ∷ false ∷ false ∷ []) ∷ (false ∷ true ∷ false ∷ false ∷ false ∷ false ∷ false ∷ false ∷ [])
    ∷ (false ∷ false ∷ true ∷ false ∷ false ∷ false ∷ false ∷ false ∷ []) ∷ (false ∷ false ∷ false ∷ true ∷ false ∷ false ∷ false ∷ false ∷ [])
    ∷ (false ∷ false ∷ false ∷ false ∷ true ∷ false ∷ false ∷ false ∷ []) ∷ (false ∷ false ∷ false ∷ false ∷ false ∷ true ∷ false ∷ false ∷ [])
    ∷ (false ∷ false ∷ false ∷ false ∷ false ∷ false ∷ true ∷ false ∷ []) ∷ (false ∷ false ∷ false ∷ false ∷ false ∷ false ∷ false ∷ true ∷ []) ∷ []
same_bases = refl

abbrev some_types : List Ty
some_types = base_type bases.Int ∷ base_array bases.Int ∷ class_type (codes "I") ∷ class_type (codes "II") ∷ array_type (class_type (codes "I")) ∷ []

-- a class isn't the base type of that letter, and dimensions count
same_types : map (λ a. map (same_type a) some_types) some_types
    ≡ (true ∷ false ∷ false ∷ false ∷ false ∷ []) ∷ (false ∷ true ∷ false ∷ false ∷ false ∷ []) ∷ (false ∷ false ∷ true ∷ false ∷ false ∷ [])
    ∷ (false ∷ false ∷ false ∷ true ∷ false ∷ []) ∷ (false ∷ false ∷ false ∷ false ∷ true ∷ []) ∷ []
same_types = refl

abbrev int : Ty
int = base_type bases.Int

abbrev long : Ty
long = base_type bases.Long

abbrev some_descs : List Desc
some_descs = descs.Field int ∷ descs.Field long ∷ descs.Method [] None ∷ descs.Method [] (Some int) ∷ descs.Method (int ∷ []) None ∷ descs.Method (int ∷ long ∷ []) None ∷ descs.Method (long ∷ int ∷ []) None ∷ []

-- a field isn't a method that returns its type; the result, the number of parameters and their order count
same_descs : map (λ a. map (same_desc a) some_descs) some_descs
    ≡ (true ∷ false ∷ false ∷ false ∷ false ∷ false ∷ false ∷ []) ∷ (false ∷ true ∷ false ∷ false ∷ false ∷ false ∷ false ∷ [])
    ∷ (false ∷ false ∷ true ∷ false ∷ false ∷ false ∷ false ∷ []) ∷ (false ∷ false ∷ false ∷ true ∷ false ∷ false ∷ false ∷ [])
    ∷ (false ∷ false ∷ false ∷ false ∷ true ∷ false ∷ false ∷ []) ∷ (false ∷ false ∷ false ∷ false ∷ false ∷ true ∷ false ∷ [])
    ∷ (false ∷ false ∷ false ∷ false ∷ false ∷ false ∷ true ∷ []) ∷ []
same_descs = refl

-- ---- arrays, parameters and results

of_arrays : array_type long ∷ component_type (base_array bases.Long) ∷ array_type (base_array bases.Long) ∷ component_type (array_type (class_type (codes "A"))) ∷ []
    ≡ base_array bases.Long ∷ long ∷ record { dims = 2; of = ofs.Base bases.Long } ∷ class_type (codes "A") ∷ []
of_arrays = refl

parameters : parameters_of (descs.Method (int ∷ long ∷ []) (Some long)) ∷ parameters_of (descs.Field int) ∷ [] ≡ (int ∷ long ∷ []) ∷ [] ∷ []
parameters = refl

results : result_of (descs.Method (int ∷ long ∷ []) (Some long)) ∷ result_of (descs.Method (int ∷ []) None) ∷ result_of (descs.Field int) ∷ [] ≡ Some long ∷ None ∷ None ∷ []
results = refl

-- other names of classes: those of parameters, of the result, of elements and of fields; base types stay
renamed : map (λ desc. desc_text (desc_map in_sandbox desc))
    (descs.Field int ∷ descs.Field (array_type (class_type (codes "a/B"))) ∷ descs.Method (class_type (codes "I") ∷ long ∷ base_array bases.Byte ∷ class_type (codes "C") ∷ []) (Some (class_type (codes "D"))) ∷ descs.Method [] None ∷ [])
    ≡ codes "I" ∷ codes "[Lsandbox/a/B;" ∷ codes "(Lsandbox/I;J[BLsandbox/C;)Lsandbox/D;" ∷ codes "()V" ∷ []
renamed = refl

-- ---- elements

abbrev each_element : List Element
each_element = elements.Boolean ∷ elements.Byte ∷ elements.Char ∷ elements.Short ∷ elements.Int ∷ elements.Long ∷ elements.Ref ∷ []

-- 16 bytes and those of the elements, rounded up to 8
array_sizes : map (λ n. map (λ element. array_size element n) each_element) (0 ∷ 1 ∷ 5 ∷ 9 ∷ [])
    ≡ (16 ∷ 16 ∷ 16 ∷ 16 ∷ 16 ∷ 16 ∷ 16 ∷ []) ∷ (24 ∷ 24 ∷ 24 ∷ 24 ∷ 24 ∷ 24 ∷ 24 ∷ []) ∷ (24 ∷ 24 ∷ 32 ∷ 32 ∷ 40 ∷ 56 ∷ 40 ∷ []) ∷ (32 ∷ 32 ∷ 40 ∷ 40 ∷ 56 ∷ 88 ∷ 56 ∷ []) ∷ []
array_sizes = refl

other_sizes : map instance_size (0 ∷ 1 ∷ 3 ∷ []) ++ map text_size ([] ∷ (1 ∷ []) ∷ (1 ∷ 2 ∷ 3 ∷ 4 ∷ []) ∷ (1 ∷ 2 ∷ 3 ∷ 4 ∷ 5 ∷ []) ∷ []) ≡ 16 ∷ 24 ∷ 40 ∷ 16 ∷ 24 ∷ 24 ∷ 32 ∷ []
other_sizes = refl

abbrev keeps : ℤ → List ℤ
keeps z = map (λ element. kept element z) each_element

-- a boolean and a byte keep 8 bits with a sign, a char 16 without one, a short 16 with one, an int 32 and a long 64
kept_numbers : map keeps (pos 127 ∷ pos 128 ∷ negsuc 0 ∷ negsuc 128 ∷ pos 32768 ∷ pos 65536 ∷ pos 2147483648 ∷ [])
    ≡ (pos 127 ∷ pos 127 ∷ pos 127 ∷ pos 127 ∷ pos 127 ∷ pos 127 ∷ pos 127 ∷ [])
    ∷ (negsuc 127 ∷ negsuc 127 ∷ pos 128 ∷ pos 128 ∷ pos 128 ∷ pos 128 ∷ pos 128 ∷ [])
    ∷ (negsuc 0 ∷ negsuc 0 ∷ pos 65535 ∷ negsuc 0 ∷ negsuc 0 ∷ negsuc 0 ∷ negsuc 0 ∷ [])
    ∷ (pos 127 ∷ pos 127 ∷ pos 65407 ∷ negsuc 128 ∷ negsuc 128 ∷ negsuc 128 ∷ negsuc 128 ∷ [])
    ∷ (pos 0 ∷ pos 0 ∷ pos 32768 ∷ negsuc 32767 ∷ pos 32768 ∷ pos 32768 ∷ pos 32768 ∷ [])
    ∷ (pos 0 ∷ pos 0 ∷ pos 0 ∷ pos 0 ∷ pos 65536 ∷ pos 65536 ∷ pos 65536 ∷ [])
    ∷ (pos 0 ∷ pos 0 ∷ pos 0 ∷ pos 0 ∷ negsuc 2147483647 ∷ pos 2147483648 ∷ pos 2147483648 ∷ []) ∷ []
unfolding int_wrap
kept_numbers = refl

-- ---- values as numbers

numbers : map value_number (values.Int (negsuc 4) ∷ values.Long (pos 4294967296) ∷ values.Ref 7 ∷ []) ≡ negsuc 4 ∷ pos 4294967296 ∷ pos 7 ∷ []
numbers = refl

of_numbers : map (λ kind. number_value kind (pos 7)) (kinds.Int ∷ kinds.Long ∷ kinds.Ref ∷ []) ≡ values.Int (pos 7) ∷ values.Long (pos 7) ∷ values.Ref 7 ∷ []
of_numbers = refl

-- a field's 64 bits as a reference: the low 32 are its number, and those above count for nothing
of_reference_bits : map (field_value kinds.Ref) (65537 ∷ 4294967295 ∷ 4294967297 ∷ []) ≡ values.Ref 65537 ∷ values.Ref 4294967295 ∷ values.Ref 1 ∷ []
of_reference_bits = refl

-- ---- objects whose classes are given otherwise

abbrev some_objects : List (Object ℕ)
some_objects = Instance 1 (5 ∷ 6 ∷ []) ∷ Array 2 elements.Short (pos 7 ∷ []) ∷ Text 3 (8 ∷ []) ∷ []

classes : map class_of some_objects ≡ 1 ∷ 2 ∷ 3 ∷ []
classes = refl

-- the class alone is another
other_classes : map (object_map (λ (class : ℕ). class ∷ [])) some_objects ≡ Instance (1 ∷ []) (5 ∷ 6 ∷ []) ∷ Array (2 ∷ []) elements.Short (pos 7 ∷ []) ∷ Text (3 ∷ []) (8 ∷ []) ∷ []
other_classes = refl
