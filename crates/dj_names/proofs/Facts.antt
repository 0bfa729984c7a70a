-- What the definitions of specs/trusted/Values say of each value, element and exception, written out from JVMS 2.6, 2.11.1 and 6.5.
use Rattle.std.specs.Prelude.{◌≡◌, ℕ, ℤ, List, [], ◌∷◌, map, codes}
use Rattle.std.proofs.Common.{refl}
use Rattle.dj_names.specs.declared.run.Value.TheVariants as values
use Rattle.dj_names.specs.declared.run.Element.{Element}
use Rattle.dj_names.specs.declared.run.Element.TheVariants as elements
use Rattle.dj_names.specs.declared.run.Raised.TheVariants as raises
use Rattle.dj_names.specs.declared.descriptor.Kind.TheVariants as kinds
use Rattle.dj_names.specs.trusted.Values.{value_kind, element_size, raised_class}
use Rattle.dj_names.specs.Values.{element_kind}

value_kinds : (z : ℤ) (r : ℕ) → map value_kind (values.Int z ∷ values.Long z ∷ values.Ref r ∷ []) ≡ kinds.Int ∷ kinds.Long ∷ kinds.Ref ∷ []
value_kinds z r = refl

abbrev pub all_elements : List Element
all_elements =
    elements.Boolean ∷ elements.Byte ∷ elements.Char ∷ elements.Short ∷ elements.Int ∷ elements.Long ∷ elements.Ref ∷ []

element_kinds : map element_kind all_elements ≡ kinds.Int ∷ kinds.Int ∷ kinds.Int ∷ kinds.Int ∷ kinds.Int ∷ kinds.Long ∷ kinds.Ref ∷ []
element_kinds = refl

element_sizes : map element_size all_elements ≡ 1 ∷ 1 ∷ 2 ∷ 2 ∷ 4 ∷ 8 ∷ 4 ∷ []
element_sizes = refl

arithmetic : raised_class raises.Arithmetic ≡ codes "java/lang/ArithmeticException"
arithmetic = refl

array_index : raised_class raises.ArrayIndexOutOfBounds ≡ codes "java/lang/ArrayIndexOutOfBoundsException"
array_index = refl

array_store : raised_class raises.ArrayStore ≡ codes "java/lang/ArrayStoreException"
array_store = refl

class_cast : raised_class raises.ClassCast ≡ codes "java/lang/ClassCastException"
class_cast = refl

negative_size : raised_class raises.NegativeArraySize ≡ codes "java/lang/NegativeArraySizeException"
negative_size = refl

null_pointer : raised_class raises.NullPointer ≡ codes "java/lang/NullPointerException"
null_pointer = refl

string_index : raised_class raises.StringIndexOutOfBounds ≡ codes "java/lang/StringIndexOutOfBoundsException"
string_index = refl
