-- What the code's texts show, and the tests that names take by their places.
use Rattle.std.specs.Prelude.{ℕ, ◌==◌, ◌&&◌, Bool, not, List, nat_le, nat_lt}
use Rattle.dj_names.specs.trusted.Types.{Name}
use Rattle.dj_names.specs.Tests.{unqualified_name_test, method_name_test, class_name_test, field_descriptor_test, method_descriptor_test, array_descriptor_test}
use Rattle.dj_asm_tokens.specs.declared.text.Text as the_text
use Rattle.dj_asm_tokens.specs.declared.text.Text.TheVariants as texts
use Rattle.dj_asm_tokens.specs.declared.text.NameKind.{NameKind}
use Rattle.dj_asm_tokens.specs.declared.text.NameKind.TheVariants as kinds
use Rattle.dj_asm_tokens.specs.WordReading.{class_text_test}

abbrev pub text_view : the_text.Text → Name
text_view (texts.Lent bytes) = bytes.now
text_view (texts.Owned name) = name

abbrev pub test_of : NameKind → List ℕ → Bool
test_of kinds.Class = class_name_test
test_of kinds.Field = unqualified_name_test
test_of kinds.Method = method_name_test
test_of kinds.FieldDescriptor = field_descriptor_test
test_of kinds.MethodDescriptor = method_descriptor_test
test_of kinds.ArrayDescriptor = array_descriptor_test
test_of kinds.ClassOrArray = class_text_test

-- a byte that is a unit, and whose spelling is itself
abbrev pub is_bare : ℕ → Bool
is_bare b = nat_le 1 b && nat_lt b 128 && not (b == 92)
