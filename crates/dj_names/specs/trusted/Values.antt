-- The kinds of values, the elements of arrays, and the classes of the exceptions that are raised (JVMS 2.6, 2.7 and 6.5).
use Rattle.std.specs.Prelude.{ℕ, List, codes}
use Rattle.dj_names.specs.declared.run.Value.{Value}
use Rattle.dj_names.specs.declared.run.Value.TheVariants as values
use Rattle.dj_names.specs.declared.run.Element.{Element}
use Rattle.dj_names.specs.declared.run.Element.TheVariants as elements
use Rattle.dj_names.specs.declared.run.Raised.{Raised}
use Rattle.dj_names.specs.declared.run.Raised.TheVariants as raises
use Rattle.dj_names.specs.declared.descriptor.Kind.{Kind}
use Rattle.dj_names.specs.declared.descriptor.Kind.TheVariants as kinds

abbrev pub value_kind : Value → Kind
value_kind (values.Int z) = kinds.Int
value_kind (values.Long z) = kinds.Long
value_kind (values.Ref r) = kinds.Ref

-- the bytes that an element takes
abbrev pub element_size : Element → ℕ
element_size elements.Boolean = 1
element_size elements.Byte = 1
element_size elements.Char = 2
element_size elements.Short = 2
element_size elements.Int = 4
element_size elements.Long = 8
element_size elements.Ref = 4

abbrev pub raised_class : Raised → List ℕ
raised_class raises.Arithmetic = codes "java/lang/ArithmeticException"
raised_class raises.ArrayIndexOutOfBounds = codes "java/lang/ArrayIndexOutOfBoundsException"
raised_class raises.ArrayStore = codes "java/lang/ArrayStoreException"
raised_class raises.ClassCast = codes "java/lang/ClassCastException"
raised_class raises.NegativeArraySize = codes "java/lang/NegativeArraySizeException"
raised_class raises.NullPointer = codes "java/lang/NullPointerException"
raised_class raises.StringIndexOutOfBounds = codes "java/lang/StringIndexOutOfBoundsException"
