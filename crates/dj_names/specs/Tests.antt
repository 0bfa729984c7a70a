-- Whether a whole text is a name, modified UTF-8 or a descriptor (JVMS 4.2 to 4.4), as tests that compute.
-- proofs/TestLaws says that each decides what its name says.
use Rattle.std.specs.Prelude.{ℕ, Bool, true, false, not, ◌&&◌, ◌||◌, nat_eq, nat_le, List, [], ◌∷◌, length, Option, Some, None, is_some, bytes_eq, codes}
use Rattle.std.specs.List.{list_all}
use Rattle.dj_names.specs.declared.descriptor.Ty.{Ty}
use Rattle.dj_names.specs.trusted.NameReading.{is_stop, reads_class_name}
use Rattle.dj_names.specs.trusted.DescReading.{field_read, method_read}
use Rattle.dj_names.specs.trusted.Tests.{units_read}

-- none of  .  ;  [  /
abbrev pub name_byte_test : ℕ → Bool
name_byte_test b = not (is_stop b || nat_eq b 47)

-- neither  <  nor  >
abbrev pub no_angle_test : ℕ → Bool
no_angle_test b = not (nat_eq b 60 || nat_eq b 62)

-- JVMS 4.2.2
unfoldable pub unqualified_name_test : List ℕ → Bool
unqualified_name_test [] = false
unqualified_name_test (b ∷ more) = list_all name_byte_test (b ∷ more)

-- JVMS 4.2.2
unfoldable pub method_name_test : List ℕ → Bool
method_name_test text =
    unqualified_name_test text && (bytes_eq text (codes "<init>") || (bytes_eq text (codes "<clinit>") || list_all no_angle_test text))

-- JVMS 4.2.1
unfoldable pub class_name_test : List ℕ → Bool
class_name_test text = reads_class_name true text

-- JVMS 4.4.7: each unit takes at least one byte
unfoldable pub modified_utf8_test : List ℕ → Bool
modified_utf8_test text = is_some (units_read (length text) text)

-- JVMS 4.3.2
unfoldable pub field_descriptor_test : List ℕ → Bool
field_descriptor_test text = is_some (field_read text)

-- JVMS 4.3.3
unfoldable pub method_descriptor_test : List ℕ → Bool
method_descriptor_test text = is_some (method_read text)

abbrev pub array_test : Option Ty → Bool
array_test None = false
array_test (Some ty) = nat_le 1 ty.dims

-- JVMS 4.4.1: a field's descriptor with at least one dimension
unfoldable pub array_descriptor_test : List ℕ → Bool
array_descriptor_test text = array_test (field_read text)
