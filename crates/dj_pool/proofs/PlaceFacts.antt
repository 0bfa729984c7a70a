-- Which index each place of a constant takes: every place is tried with every index of a pool that has a constant of each kind.
use Rattle.std.proofs.Common.{◌≡◌, ℕ, List, [], ◌∷◌, map, None, pos, refl}
use Rattle.std.specs.Prelude.{codes, filter}
use Rattle.dj_names.specs.trusted.NameReading.{reads_class_name}
use Rattle.dj_names.specs.trusted.DescReading.{dims_read, name_read, class_read, of_read, type_read, params_read, field_read, return_read, method_read}
use Rattle.dj_names.specs.Tests.{unqualified_name_test, method_name_test, class_name_test, field_descriptor_test, method_descriptor_test, array_descriptor_test}
use Rattle.dj_pool.specs.trusted.Pool.{Constant, Utf8, Integer, Float, Long, Double, Class, Text, Field, Method, InterfaceMethod, NameAndType, Handle, MethodType, Dynamic, Hole}
use Rattle.dj_pool.specs.Tests.{is_linked}
use Rattle.dj_pool.specs.Reading.{first_unlinked}

-- 1 a name, 3 and 4 descriptors of a field and of a method, 13 and 15 holes, 20 a name that no method has, 21 an array's descriptor, 22 a text that is nothing, 23 an array's class, 24 a name with < and > that a method may have
each_pool : List Constant
each_pool =
    Utf8 (codes "A") ∷ Class 1 ∷ Utf8 (codes "I") ∷ Utf8 (codes "()V") ∷ NameAndType 1 3 ∷ NameAndType 1 4 ∷ Field 2 5 ∷ Method 2 6 ∷ InterfaceMethod 2 6 ∷ Integer (pos 1) ∷ Float 1 ∷ Long (pos 1) ∷ Hole ∷ Double 1 ∷ Hole ∷ Text 1 ∷ Handle 1 7 ∷ MethodType 4 ∷ Dynamic 0 6 ∷ Utf8 (codes "<x>") ∷ Utf8 (codes "[I") ∷ Utf8 (codes "[V") ∷ Class 21 ∷ Utf8 (codes "<init>") ∷ []

-- from 0, which is none, to two past the last
each_index : List ℕ
each_index = 0 ∷ 1 ∷ 2 ∷ 3 ∷ 4 ∷ 5 ∷ 6 ∷ 7 ∷ 8 ∷ 9 ∷ 10 ∷ 11 ∷ 12 ∷ 13 ∷ 14 ∷ 15 ∷ 16 ∷ 17 ∷ 18 ∷ 19 ∷ 20 ∷ 21 ∷ 22 ∷ 23 ∷ 24 ∷ 25 ∷ 26 ∷ []

-- those that the place takes
takes : (ℕ → Constant) → List ℕ
takes place = filter (λ (i : ℕ). is_linked each_pool (place i)) each_index

-- nothing in the pool itself is wrongly linked
each_pool-linked : first_unlinked each_pool 1 each_pool ≡ None
unfolding each_pool first_unlinked unqualified_name_test method_name_test class_name_test field_descriptor_test method_descriptor_test array_descriptor_test reads_class_name dims_read name_read class_read of_read type_read params_read field_read return_read method_read
each_pool-linked = refl

-- a class's text: a class's name or an array's descriptor
class-takes : takes Class ≡ 1 ∷ 3 ∷ 4 ∷ 20 ∷ 21 ∷ 24 ∷ []
unfolding takes each_pool each_index unqualified_name_test method_name_test class_name_test field_descriptor_test method_descriptor_test array_descriptor_test reads_class_name dims_read name_read class_read of_read type_read params_read field_read return_read method_read
class-takes = refl

-- a string's text: any
text-takes : takes Text ≡ 1 ∷ 3 ∷ 4 ∷ 20 ∷ 21 ∷ 22 ∷ 24 ∷ []
unfolding takes each_pool each_index unqualified_name_test method_name_test class_name_test field_descriptor_test method_descriptor_test array_descriptor_test reads_class_name dims_read name_read class_read of_read type_read params_read field_read return_read method_read
text-takes = refl

-- a field's class, and its name with a field's descriptor
field-takes : (takes (λ (i : ℕ). Field i 5) ≡ 2 ∷ 23 ∷ []) × (takes (Field 2) ≡ 5 ∷ [])
unfolding takes each_pool each_index unqualified_name_test method_name_test class_name_test field_descriptor_test method_descriptor_test array_descriptor_test reads_class_name dims_read name_read class_read of_read type_read params_read field_read return_read method_read
field-takes = (refl, refl)

-- a method's class, and its name with a method's descriptor
method-takes : (takes (λ (i : ℕ). Method i 6) ≡ 2 ∷ 23 ∷ []) × (takes (Method 2) ≡ 6 ∷ [])
unfolding takes each_pool each_index unqualified_name_test method_name_test class_name_test field_descriptor_test method_descriptor_test array_descriptor_test reads_class_name dims_read name_read class_read of_read type_read params_read field_read return_read method_read
method-takes = (refl, refl)

-- the same for an interface's method
interface_method-takes : (takes (λ (i : ℕ). InterfaceMethod i 6) ≡ 2 ∷ 23 ∷ []) × (takes (InterfaceMethod 2) ≡ 6 ∷ [])
unfolding takes each_pool each_index unqualified_name_test method_name_test class_name_test field_descriptor_test method_descriptor_test array_descriptor_test reads_class_name dims_read name_read class_read of_read type_read params_read field_read return_read method_read
interface_method-takes = (refl, refl)

-- a field's name, before a field's descriptor
field_name-takes : takes (λ (i : ℕ). NameAndType i 3) ≡ 1 ∷ 3 ∷ 4 ∷ 20 ∷ 24 ∷ []
unfolding takes each_pool each_index unqualified_name_test method_name_test class_name_test field_descriptor_test method_descriptor_test array_descriptor_test reads_class_name dims_read name_read class_read of_read type_read params_read field_read return_read method_read
field_name-takes = refl

-- a method's name, before a method's descriptor
method_name-takes : takes (λ (i : ℕ). NameAndType i 4) ≡ 1 ∷ 3 ∷ 4 ∷ 24 ∷ []
unfolding takes each_pool each_index unqualified_name_test method_name_test class_name_test field_descriptor_test method_descriptor_test array_descriptor_test reads_class_name dims_read name_read class_read of_read type_read params_read field_read return_read method_read
method_name-takes = refl

-- no name, before what is no descriptor
no_name-takes : takes (λ (i : ℕ). NameAndType i 1) ≡ []
unfolding takes each_pool each_index unqualified_name_test method_name_test class_name_test field_descriptor_test method_descriptor_test array_descriptor_test reads_class_name dims_read name_read class_read of_read type_read params_read field_read return_read method_read
no_name-takes = refl

-- a descriptor after a name that fields and methods may have
desc-takes : takes (NameAndType 1) ≡ 3 ∷ 4 ∷ 21 ∷ []
unfolding takes each_pool each_index unqualified_name_test method_name_test class_name_test field_descriptor_test method_descriptor_test array_descriptor_test reads_class_name dims_read name_read class_read of_read type_read params_read field_read return_read method_read
desc-takes = refl

-- a descriptor after a name that fields alone may have
field_desc-takes : takes (NameAndType 20) ≡ 3 ∷ 21 ∷ []
unfolding takes each_pool each_index unqualified_name_test method_name_test class_name_test field_descriptor_test method_descriptor_test array_descriptor_test reads_class_name dims_read name_read class_read of_read type_read params_read field_read return_read method_read
field_desc-takes = refl

-- what is handled, of whatever kind: a field, a method, an interface's method
handle-takes : map (λ (kind : ℕ). takes (Handle kind)) (0 ∷ 1 ∷ 6 ∷ 9 ∷ 255 ∷ []) ≡ (7 ∷ 8 ∷ 9 ∷ []) ∷ (7 ∷ 8 ∷ 9 ∷ []) ∷ (7 ∷ 8 ∷ 9 ∷ []) ∷ (7 ∷ 8 ∷ 9 ∷ []) ∷ (7 ∷ 8 ∷ 9 ∷ []) ∷ []
unfolding takes each_pool each_index unqualified_name_test method_name_test class_name_test field_descriptor_test method_descriptor_test array_descriptor_test reads_class_name dims_read name_read class_read of_read type_read params_read field_read return_read method_read
handle-takes = refl

-- a method type's descriptor
method_type-takes : takes MethodType ≡ 4 ∷ []
unfolding takes each_pool each_index unqualified_name_test method_name_test class_name_test field_descriptor_test method_descriptor_test array_descriptor_test reads_class_name dims_read name_read class_read of_read type_read params_read field_read return_read method_read
method_type-takes = refl

-- a call site's name with a method's descriptor, whatever its place in the table
dynamic-takes : map (λ (row : ℕ). takes (Dynamic row)) (0 ∷ 65535 ∷ []) ≡ (6 ∷ []) ∷ (6 ∷ []) ∷ []
unfolding takes each_pool each_index unqualified_name_test method_name_test class_name_test field_descriptor_test method_descriptor_test array_descriptor_test reads_class_name dims_read name_read class_read of_read type_read params_read field_read return_read method_read
dynamic-takes = refl
