-- Whether there is such a text or class at an index, and whether a constant's indexes name what their places require, as tests that compute.
use Rattle.std.specs.Prelude.{ℕ, Bool, true, false, not, ◌&&◌, ◌||◌, List, length, nat_le, Option, Some, None, is_some, option_and_then}
use Rattle.dj_names.specs.Tests.{unqualified_name_test, method_name_test, class_name_test, field_descriptor_test, method_descriptor_test, array_descriptor_test}
use Rattle.dj_pool.specs.declared.kinds.TextKinds.{TextKinds}
use Rattle.dj_pool.specs.trusted.Pool.{Constant, Class, Text, Field, Method, InterfaceMethod, NameAndType, Handle, MethodType, Dynamic, takes_two, constant_at, text_of, class_text_of, member_of, text_at, class_name_at, desc_at}

-- the text is there, and passes the test
abbrev pub passes : (List ℕ → Bool) → Option (List ℕ) → Bool
passes test None = false
passes test (Some text) = test text

abbrev pub class_text_test : List ℕ → Bool
class_text_test text = class_name_test text || array_descriptor_test text

-- the text at the index passes the test
abbrev pub text_passes : (List ℕ → Bool) → List Constant → ℕ → Bool
text_passes test pool index = passes test (text_at pool index)

-- there is a text at the index
abbrev pub is_text : List Constant → ℕ → Bool
is_text pool index = text_passes (λ _. true) pool index

-- the class at the index is no array
abbrev pub is_class : List Constant → ℕ → Bool
is_class pool index = passes class_name_test (class_name_at pool index)

-- there is a class at the index
abbrev pub is_any_class : List Constant → ℕ → Bool
is_any_class pool index = is_some (option_and_then class_text_of (constant_at pool index))

-- there is a field or a method at the index
abbrev pub is_member : List Constant → ℕ → Bool
is_member pool index = is_some (option_and_then member_of (constant_at pool index))

-- there is a name and descriptor at the index, and the descriptor passes the test
abbrev pub desc_passes : (List ℕ → Bool) → List Constant → ℕ → Bool
desc_passes test pool index = passes test (desc_at pool index)

-- ---- what a text is, for each of the tests

abbrev pub kinds_of : Constant → TextKinds
kinds_of k = record {
  text = passes (λ _. true) (text_of k);
  class_name = passes class_name_test (text_of k);
  array_descriptor = passes array_descriptor_test (text_of k);
  unqualified_name = passes unqualified_name_test (text_of k);
  method_name = passes method_name_test (text_of k);
  field_descriptor = passes field_descriptor_test (text_of k);
  method_descriptor = passes method_descriptor_test (text_of k);
}

-- ---- links

abbrev pub are_names : List Constant → ℕ → ℕ → Bool
are_names pool name desc =
    (text_passes unqualified_name_test pool name && text_passes field_descriptor_test pool desc)
    || (text_passes method_name_test pool name && text_passes method_descriptor_test pool desc)

-- each index of the constant names what its place requires
abbrev pub is_linked : List Constant → Constant → Bool
is_linked pool (Class name) = text_passes class_text_test pool name
is_linked pool (Text text) = is_text pool text
is_linked pool (Field class name_and_type) = is_any_class pool class && desc_passes field_descriptor_test pool name_and_type
is_linked pool (Method class name_and_type) = is_any_class pool class && desc_passes method_descriptor_test pool name_and_type
is_linked pool (InterfaceMethod class name_and_type) = is_any_class pool class && desc_passes method_descriptor_test pool name_and_type
is_linked pool (NameAndType name desc) = are_names pool name desc
is_linked pool (Handle kind member) = is_member pool member
is_linked pool (MethodType desc) = text_passes method_descriptor_test pool desc
is_linked pool (Dynamic bootstrap name_and_type) = desc_passes method_descriptor_test pool name_and_type
is_linked pool _ = true

-- and the second index of a long or a double, where the constant has this index, is one of the pool
abbrev pub is_fit : List Constant → ℕ → Constant → Bool
is_fit pool index k = is_linked pool k && not (takes_two k && nat_le (length pool) index)
