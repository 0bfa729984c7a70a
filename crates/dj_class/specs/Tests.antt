-- The reader's own: the tests of texts, and the parts of a class file as the reader holds them.
use Rattle.std.specs.Prelude.{ℕ, Bool, true, List}
use Rattle.dj_names.specs.Tests.{unqualified_name_test, method_name_test, field_descriptor_test, method_descriptor_test}
use Rattle.dj_class.specs.declared.class.TextTest.{TextTest}
use Rattle.dj_class.specs.declared.class.TextTest.TheVariants as tests
use Rattle.dj_class.specs.declared.class.Opening as the_opening
use Rattle.dj_class.specs.Reading.{Heading}

-- the test that a text is to pass
abbrev pub test_of : TextTest → List ℕ → Bool
test_of tests.Any text = true
test_of tests.FieldName text = unqualified_name_test text
test_of tests.MethodName text = method_name_test text
test_of tests.FieldDescriptor text = field_descriptor_test text
test_of tests.MethodDescriptor text = method_descriptor_test text

abbrev pub heading_of : the_opening.Opening → Heading
heading_of h = record { flags = h.flags; this_class = h.this_class; super_class = h.super_class; interfaces = h.interfaces }
