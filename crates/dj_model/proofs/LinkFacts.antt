-- The libraries, resolution, subtypes, flags and places, by plain values.
use Rattle.std.proofs.Common.{◌≡◌, true, false, ℕ, Bool, ◌&&◌, List, [], ◌∷◌, map, length, Option, Some, None, codes, refl}
use Rattle.std.specs.List.{list_all, flat_map}
use Rattle.std.specs.Option.{option_map}
use Rattle.std.specs.Cmp.Lexicographic.{pointwise}
use Rattle.dj_names.specs.declared.descriptor.Base.TheVariants as bases
use Rattle.dj_names.specs.declared.descriptor.Ty.{Ty}
use Rattle.dj_names.specs.declared.descriptor.Desc.TheVariants as descs
use Rattle.dj_names.specs.declared.run.Raised.TheVariants as raises
use Rattle.dj_names.specs.trusted.Library.{deterministic_library, raw_library, object, string, builder, int, lang}
use Rattle.dj_names.specs.Library.{sandbox_library}
use Rattle.dj_names.specs.trusted.Values.{raised_class}
use Rattle.dj_names.specs.trusted.Types.{Name, class_type, base_array, array_type}
use Rattle.dj_model.specs.trusted.Program.{Program, Class, Method, Field, Body, Abstract, Native, Runs, class_at, flags_of, is_private, is_static, is_interface, is_abstract}
use Rattle.dj_model.specs.Program.{is_final}
use Rattle.dj_model.specs.trusted.Linking.{most_classes, chain_of, chain, interfaces_from, interfaces_above, is_subclass, is_subtype, field_order, FoundMethod, FoundField, resolve_method, resolve_field, select, special_method, field_count, place_of, static_place, static_count}
use Rattle.dj_model.specs.trusted.Libraries.{library_program, is_name_before}
use Rattle.dj_model.specs.Libraries.{metered_program, raw_program, sandbox_program}
use Rattle.dj_model.specs.trusted.Numbers.{same_kind}
use Rattle.dj_model.specs.trusted.Kinds.{Signature, signature_of}
use Rattle.dj_model.specs.NativeKinds.{native_signature}
use Rattle.dj_model.specs.trusted.Shape.{same_result}
use Rattle.dj_model.specs.Sound.{names_rise, methods_differ, fields_differ}
use Rattle.dj_model.specs.SmallRuns.{class_with, field_with, method_with}

abbrev each_library : List Program
each_library = library_program deterministic_library ∷ library_program raw_library ∷ library_program sandbox_library ∷ []

counted : map (λ program. length program) each_library ≡ 25 ∷ 25 ∷ 27 ∷ []
counted = refl

rising : map names_rise each_library ≡ true ∷ true ∷ true ∷ []
rising = refl

members_differ : map (λ (program : Program). list_all (λ (c : Class). methods_differ c.methods && fields_differ c.fields) program) each_library ≡ true ∷ true ∷ true ∷ []
members_differ = refl

-- each native method takes and gives the kinds of its descriptor
abbrev same_signature : Option Signature → Signature → Bool
same_signature None b = false
same_signature (Some a) b = pointwise same_kind a.parameters b.parameters && same_result a.result b.result

abbrev is_described : Method → Body → Bool
is_described m (Native id) = same_signature (signature_of (is_static m.flags) m.desc) (native_signature id)
is_described m Abstract = is_abstract m.flags
is_described m (Runs code) = false

described : map (λ (program : Program). list_all (λ (c : Class). list_all (λ (m : Method). is_described m m.body) c.methods) program) each_library ≡ true ∷ true ∷ true ∷ []
unfolding native_signature
described = refl

-- how many methods there are, and how many of them are abstract
abbrev methods_in : Program → List Method
methods_in program = flat_map (λ (c : Class). c.methods) program

methods_counted : map (λ (program : Program). length (methods_in program)) each_library ≡ 84 ∷ 86 ∷ 90 ∷ []
methods_counted = refl

superclasses : map (λ (name : Name). chain (metered_program []) (lang name)) (codes "Throwable" ∷ codes "Exception" ∷ codes "Error" ∷ codes "RuntimeException" ∷ codes "ArithmeticException" ∷ codes "ArrayStoreException" ∷ codes "ClassCastException" ∷ codes "IllegalArgumentException" ∷ codes "IllegalStateException" ∷ codes "IndexOutOfBoundsException" ∷ codes "NegativeArraySizeException" ∷ codes "NullPointerException" ∷ codes "UnsupportedOperationException" ∷ codes "ArrayIndexOutOfBoundsException" ∷ codes "StringIndexOutOfBoundsException" ∷ codes "String" ∷ codes "StringBuilder" ∷ codes "Math" ∷ codes "System" ∷ codes "Comparable" ∷ codes "CharSequence" ∷ codes "Runnable" ∷ codes "Cloneable" ∷ codes "Object" ∷ [])
    ≡ map lang (codes "Throwable" ∷ codes "Object" ∷ []) ∷ map lang (codes "Exception" ∷ codes "Throwable" ∷ codes "Object" ∷ []) ∷ map lang (codes "Error" ∷ codes "Throwable" ∷ codes "Object" ∷ []) ∷ map lang (codes "RuntimeException" ∷ codes "Exception" ∷ codes "Throwable" ∷ codes "Object" ∷ []) ∷ map lang (codes "ArithmeticException" ∷ codes "RuntimeException" ∷ codes "Exception" ∷ codes "Throwable" ∷ codes "Object" ∷ []) ∷ map lang (codes "ArrayStoreException" ∷ codes "RuntimeException" ∷ codes "Exception" ∷ codes "Throwable" ∷ codes "Object" ∷ []) ∷ map lang (codes "ClassCastException" ∷ codes "RuntimeException" ∷ codes "Exception" ∷ codes "Throwable" ∷ codes "Object" ∷ []) ∷ map lang (codes "IllegalArgumentException" ∷ codes "RuntimeException" ∷ codes "Exception" ∷ codes "Throwable" ∷ codes "Object" ∷ []) ∷ map lang (codes "IllegalStateException" ∷ codes "RuntimeException" ∷ codes "Exception" ∷ codes "Throwable" ∷ codes "Object" ∷ []) ∷ map lang (codes "IndexOutOfBoundsException" ∷ codes "RuntimeException" ∷ codes "Exception" ∷ codes "Throwable" ∷ codes "Object" ∷ []) ∷ map lang (codes "NegativeArraySizeException" ∷ codes "RuntimeException" ∷ codes "Exception" ∷ codes "Throwable" ∷ codes "Object" ∷ []) ∷ map lang (codes "NullPointerException" ∷ codes "RuntimeException" ∷ codes "Exception" ∷ codes "Throwable" ∷ codes "Object" ∷ []) ∷ map lang (codes "UnsupportedOperationException" ∷ codes "RuntimeException" ∷ codes "Exception" ∷ codes "Throwable" ∷ codes "Object" ∷ []) ∷ map lang (codes "ArrayIndexOutOfBoundsException" ∷ codes "IndexOutOfBoundsException" ∷ codes "RuntimeException" ∷ codes "Exception" ∷ codes "Throwable" ∷ codes "Object" ∷ []) ∷ map lang (codes "StringIndexOutOfBoundsException" ∷ codes "IndexOutOfBoundsException" ∷ codes "RuntimeException" ∷ codes "Exception" ∷ codes "Throwable" ∷ codes "Object" ∷ []) ∷ map lang (codes "String" ∷ codes "Object" ∷ []) ∷ map lang (codes "StringBuilder" ∷ codes "Object" ∷ []) ∷ map lang (codes "Math" ∷ codes "Object" ∷ []) ∷ map lang (codes "System" ∷ codes "Object" ∷ []) ∷ map lang (codes "Comparable" ∷ codes "Object" ∷ []) ∷ map lang (codes "CharSequence" ∷ codes "Object" ∷ []) ∷ map lang (codes "Runnable" ∷ codes "Object" ∷ []) ∷ map lang (codes "Cloneable" ∷ codes "Object" ∷ []) ∷ map lang (codes "Object" ∷ []) ∷ []
unfolding most_classes chain_of interfaces_from interfaces_above is_subclass is_subtype field_order resolve_method resolve_field select special_method field_count place_of static_place metered_program raw_program sandbox_program
superclasses = refl

flags : map (λ (name : Name). flags_of (class_at (metered_program []) (lang name))) (codes "Object" ∷ codes "String" ∷ codes "StringBuilder" ∷ codes "Math" ∷ codes "System" ∷ codes "Comparable" ∷ codes "Throwable" ∷ codes "Error" ∷ [])
    ≡ 33 ∷ 49 ∷ 49 ∷ 49 ∷ 49 ∷ 1537 ∷ 33 ∷ 33 ∷ []
unfolding most_classes chain_of interfaces_from interfaces_above is_subclass is_subtype field_order resolve_method resolve_field select special_method field_count place_of static_place metered_program raw_program sandbox_program
flags = refl

fields_of_library : map (λ (name : Name). field_count (metered_program []) (lang name)) (codes "Object" ∷ codes "String" ∷ codes "StringBuilder" ∷ codes "Throwable" ∷ codes "NullPointerException" ∷ [])
    ≡ 0 ∷ 0 ∷ 1 ∷ 2 ∷ 2 ∷ []
unfolding most_classes chain_of interfaces_from interfaces_above is_subclass is_subtype field_order resolve_method resolve_field select special_method field_count place_of static_place metered_program raw_program sandbox_program
fields_of_library = refl

is_private_bit : map is_private (0 ∷ 1 ∷ 2 ∷ 4 ∷ 8 ∷ 16 ∷ 32 ∷ 64 ∷ 128 ∷ 256 ∷ 512 ∷ 1024 ∷ 2048 ∷ 4096 ∷ 8192 ∷ 16384 ∷ 32768 ∷ 65535 ∷ [])
    ≡ false ∷ false ∷ true ∷ false ∷ false ∷ false ∷ false ∷ false ∷ false ∷ false ∷ false ∷ false ∷ false ∷ false ∷ false ∷ false ∷ false ∷ true ∷ []
unfolding most_classes chain_of interfaces_from interfaces_above is_subclass is_subtype field_order resolve_method resolve_field select special_method field_count place_of static_place metered_program raw_program sandbox_program
is_private_bit = refl

is_static_bit : map is_static (0 ∷ 1 ∷ 2 ∷ 4 ∷ 8 ∷ 16 ∷ 32 ∷ 64 ∷ 128 ∷ 256 ∷ 512 ∷ 1024 ∷ 2048 ∷ 4096 ∷ 8192 ∷ 16384 ∷ 32768 ∷ 65535 ∷ [])
    ≡ false ∷ false ∷ false ∷ false ∷ true ∷ false ∷ false ∷ false ∷ false ∷ false ∷ false ∷ false ∷ false ∷ false ∷ false ∷ false ∷ false ∷ true ∷ []
unfolding most_classes chain_of interfaces_from interfaces_above is_subclass is_subtype field_order resolve_method resolve_field select special_method field_count place_of static_place metered_program raw_program sandbox_program
is_static_bit = refl

is_final_bit : map is_final (0 ∷ 1 ∷ 2 ∷ 4 ∷ 8 ∷ 16 ∷ 32 ∷ 64 ∷ 128 ∷ 256 ∷ 512 ∷ 1024 ∷ 2048 ∷ 4096 ∷ 8192 ∷ 16384 ∷ 32768 ∷ 65535 ∷ [])
    ≡ false ∷ false ∷ false ∷ false ∷ false ∷ true ∷ false ∷ false ∷ false ∷ false ∷ false ∷ false ∷ false ∷ false ∷ false ∷ false ∷ false ∷ true ∷ []
unfolding most_classes chain_of interfaces_from interfaces_above is_subclass is_subtype field_order resolve_method resolve_field select special_method field_count place_of static_place metered_program raw_program sandbox_program
is_final_bit = refl

is_interface_bit : map is_interface (0 ∷ 1 ∷ 2 ∷ 4 ∷ 8 ∷ 16 ∷ 32 ∷ 64 ∷ 128 ∷ 256 ∷ 512 ∷ 1024 ∷ 2048 ∷ 4096 ∷ 8192 ∷ 16384 ∷ 32768 ∷ 65535 ∷ [])
    ≡ false ∷ false ∷ false ∷ false ∷ false ∷ false ∷ false ∷ false ∷ false ∷ false ∷ true ∷ false ∷ false ∷ false ∷ false ∷ false ∷ false ∷ true ∷ []
unfolding most_classes chain_of interfaces_from interfaces_above is_subclass is_subtype field_order resolve_method resolve_field select special_method field_count place_of static_place metered_program raw_program sandbox_program
is_interface_bit = refl

is_abstract_bit : map is_abstract (0 ∷ 1 ∷ 2 ∷ 4 ∷ 8 ∷ 16 ∷ 32 ∷ 64 ∷ 128 ∷ 256 ∷ 512 ∷ 1024 ∷ 2048 ∷ 4096 ∷ 8192 ∷ 16384 ∷ 32768 ∷ 65535 ∷ [])
    ≡ false ∷ false ∷ false ∷ false ∷ false ∷ false ∷ false ∷ false ∷ false ∷ false ∷ false ∷ true ∷ false ∷ false ∷ false ∷ false ∷ false ∷ true ∷ []
unfolding most_classes chain_of interfaces_from interfaces_above is_subclass is_subtype field_order resolve_method resolve_field select special_method field_count place_of static_place metered_program raw_program sandbox_program
is_abstract_bit = refl

raised_classes : map raised_class (raises.Arithmetic ∷ raises.ArrayIndexOutOfBounds ∷ raises.ArrayStore ∷ raises.ClassCast ∷ raises.NegativeArraySize ∷ raises.NullPointer ∷ raises.StringIndexOutOfBounds ∷ [])
    ≡ map lang (codes "ArithmeticException" ∷ codes "ArrayIndexOutOfBoundsException" ∷ codes "ArrayStoreException" ∷ codes "ClassCastException" ∷ codes "NegativeArraySizeException" ∷ codes "NullPointerException" ∷ codes "StringIndexOutOfBoundsException" ∷ [])
unfolding most_classes chain_of interfaces_from interfaces_above is_subclass is_subtype field_order resolve_method resolve_field select special_method field_count place_of static_place metered_program raw_program sandbox_program
raised_classes = refl

order_of_names : is_name_before (codes "a") (codes "b") ∷ is_name_before (codes "b") (codes "a") ∷ is_name_before (codes "a") (codes "a") ∷ is_name_before (codes "a") (codes "aa") ∷ is_name_before (codes "aa") (codes "a") ∷ is_name_before [] (codes "a") ∷ is_name_before (codes "aZ") (codes "ab") ∷ []
    ≡ true ∷ false ∷ false ∷ true ∷ false ∷ true ∷ true ∷ []
unfolding most_classes chain_of interfaces_from interfaces_above is_subclass is_subtype field_order resolve_method resolve_field select special_method field_count place_of static_place metered_program raw_program sandbox_program
order_of_names = refl

abbrev below : Ty → Ty → Bool
below a b = is_subtype (metered_program []) [] a b

abbrev lang_type : Name → Ty
lang_type name = class_type (lang name)

subtypes : below string string ∷ below string object ∷ below object string ∷ below string (lang_type (codes "Comparable")) ∷ below string (lang_type (codes "CharSequence")) ∷ below string (class_type (codes "java/io/Serializable")) ∷ below builder (lang_type (codes "CharSequence")) ∷ below builder (lang_type (codes "Comparable")) ∷ below (lang_type (codes "Error")) (lang_type (codes "Throwable")) ∷ below (lang_type (codes "Throwable")) (lang_type (codes "Error")) ∷ below (lang_type (codes "Error")) (class_type (codes "java/io/Serializable")) ∷ below (lang_type (codes "Comparable")) object ∷ below (base_array bases.Int) object ∷ below (base_array bases.Int) (lang_type (codes "Cloneable")) ∷ below (base_array bases.Int) (class_type (codes "java/io/Serializable")) ∷ below (base_array bases.Int) (lang_type (codes "Comparable")) ∷ below (base_array bases.Int) (base_array bases.Int) ∷ below (base_array bases.Int) (base_array bases.Long) ∷ below (base_array bases.Byte) (base_array bases.Boolean) ∷ below (array_type string) (array_type object) ∷ below (array_type object) (array_type string) ∷ below (array_type string) (array_type (lang_type (codes "Comparable"))) ∷ below (array_type (base_array bases.Int)) (array_type object) ∷ below (array_type (base_array bases.Int)) (array_type (lang_type (codes "Cloneable"))) ∷ below (array_type (base_array bases.Int)) (array_type (base_array bases.Int)) ∷ below (array_type (base_array bases.Int)) (array_type (base_array bases.Byte)) ∷ below (array_type (array_type string)) (array_type object) ∷ below (array_type (array_type string)) (array_type (array_type object)) ∷ below (array_type string) (array_type (array_type object)) ∷ below object (array_type object) ∷ below (base_array bases.Int) (array_type object) ∷ below (array_type string) string ∷ below (class_type (codes "None")) (class_type (codes "None")) ∷ below (class_type (codes "None")) object ∷ []
    ≡ true ∷ true ∷ false ∷ true ∷ true ∷ false ∷ true ∷ false ∷ true ∷ false ∷ true ∷ true ∷ true ∷ true ∷ true ∷ false ∷ true ∷ false ∷ false ∷ true ∷ false ∷ true ∷ true ∷ true ∷ true ∷ false ∷ true ∷ true ∷ false ∷ false ∷ false ∷ false ∷ true ∷ false ∷ []
unfolding most_classes chain_of interfaces_from interfaces_above is_subclass is_subtype field_order resolve_method resolve_field select special_method field_count place_of static_place metered_program raw_program sandbox_program
subtypes = refl

-- I above J, two interfaces K and J of B, and C below B
abbrev interface_with : Name → List Name → List Field → List Method → Class
interface_with name interfaces fields methods = record (class_with name fields methods) { flags = 1537; interfaces = interfaces }

abbrev plain_method : ℕ → Name → Method
plain_method flags name = method_with flags name [] None Abstract

abbrev f_of : Name → Field
f_of name = field_with 9 name int None

abbrev family : Program
family = metered_program
    (interface_with (codes "I") [] (f_of (codes "i") ∷ f_of (codes "x") ∷ []) (plain_method 1025 (codes "i") ∷ plain_method 1025 (codes "x") ∷ plain_method 1026 (codes "p") ∷ plain_method 1033 (codes "s") ∷ [])
    ∷ interface_with (codes "J") (codes "I" ∷ []) (f_of (codes "j") ∷ []) (plain_method 1025 (codes "j") ∷ [])
    ∷ interface_with (codes "K") [] (f_of (codes "x") ∷ f_of (codes "k") ∷ []) (plain_method 1025 (codes "x") ∷ plain_method 1025 (codes "k") ∷ [])
    ∷ record (class_with (codes "B") (f_of (codes "b") ∷ f_of (codes "x") ∷ []) (plain_method 1 (codes "b") ∷ plain_method 2 (codes "p") ∷ plain_method 1 (codes "h") ∷ [])) { interfaces = codes "J" ∷ codes "K" ∷ [] }
    ∷ record (class_with (codes "C") (f_of (codes "c") ∷ []) (plain_method 1 (codes "c") ∷ plain_method 1 (codes "h") ∷ [])) { superclass = Some (codes "B"); interfaces = codes "K" ∷ [] } ∷ [])

abbrev field_of : Name → Name → Option Name
field_of class name = option_map (λ (found : FoundField). found.class) (resolve_field family [] (record { class = class_type class; name = name; desc = descs.Field int }))

abbrev method_of : Ty → Name → Option Name
method_of class name = option_map (λ (found : FoundMethod). found.class) (resolve_method family [] (record { class = class; name = name; desc = descs.Method [] None }))

-- the class, its interfaces with theirs, and then the superclass
resolved_fields : field_of (codes "C") (codes "c") ∷ field_of (codes "C") (codes "x") ∷ field_of (codes "C") (codes "b") ∷ field_of (codes "C") (codes "i") ∷ field_of (codes "C") (codes "k") ∷ field_of (codes "C") (codes "none") ∷ field_of (codes "B") (codes "x") ∷ field_of (codes "B") (codes "j") ∷ field_of (codes "B") (codes "i") ∷ field_of (codes "J") (codes "i") ∷ field_of (codes "J") (codes "x") ∷ field_of (codes "K") (codes "x") ∷ field_of (codes "none") (codes "x") ∷ []
    ≡ Some (codes "C") ∷ Some (codes "K") ∷ Some (codes "B") ∷ Some (codes "I") ∷ Some (codes "K") ∷ None ∷ Some (codes "B") ∷ Some (codes "J") ∷ Some (codes "I") ∷ Some (codes "I") ∷ Some (codes "I") ∷ Some (codes "K") ∷ None ∷ []
unfolding most_classes chain_of interfaces_from interfaces_above is_subclass is_subtype field_order resolve_method resolve_field select special_method field_count place_of static_place metered_program raw_program sandbox_program
resolved_fields = refl

-- the superclasses come before the interfaces, in which a method is neither private nor static
resolved_methods : method_of (class_type (codes "C")) (codes "c") ∷ method_of (class_type (codes "C")) (codes "h") ∷ method_of (class_type (codes "C")) (codes "b") ∷ method_of (class_type (codes "C")) (codes "x") ∷ method_of (class_type (codes "C")) (codes "p") ∷ method_of (class_type (codes "C")) (codes "i") ∷ method_of (class_type (codes "C")) (codes "j") ∷ method_of (class_type (codes "C")) (codes "k") ∷ method_of (class_type (codes "C")) (codes "s") ∷ method_of (class_type (codes "B")) (codes "x") ∷ method_of (class_type (codes "B")) (codes "p") ∷ method_of (class_type (codes "J")) (codes "x") ∷ method_of (class_type (codes "J")) (codes "j") ∷ method_of (class_type (codes "J")) (codes "p") ∷ method_of (class_type (codes "I")) (codes "p") ∷ method_of (class_type (codes "I")) (codes "s") ∷ method_of (class_type (codes "C")) (codes "none") ∷ []
    ≡ Some (codes "C") ∷ Some (codes "C") ∷ Some (codes "B") ∷ Some (codes "K") ∷ Some (codes "B") ∷ Some (codes "I") ∷ Some (codes "J") ∷ Some (codes "K") ∷ None ∷ Some (codes "I") ∷ Some (codes "B") ∷ Some (codes "I") ∷ Some (codes "J") ∷ None ∷ Some (codes "I") ∷ Some (codes "I") ∷ None ∷ []
unfolding most_classes chain_of interfaces_from interfaces_above is_subclass is_subtype field_order resolve_method resolve_field select special_method field_count place_of static_place metered_program raw_program sandbox_program
resolved_methods = refl

members_of_arrays : method_of (array_type (class_type (codes "C"))) (codes "c") ∷ method_of (base_array bases.Int) (codes "<init>") ∷ method_of (class_type (codes "I")) (codes "<init>") ∷ method_of (class_type (codes "C")) (codes "<init>") ∷ []
    ≡ None ∷ Some (lang (codes "Object")) ∷ Some (lang (codes "Object")) ∷ Some (lang (codes "Object")) ∷ []
unfolding most_classes chain_of interfaces_from interfaces_above is_subclass is_subtype field_order resolve_method resolve_field select special_method field_count place_of static_place metered_program raw_program sandbox_program
members_of_arrays = refl

interfaces_of_a_class : interfaces_above family (codes "C") ∷ interfaces_above family (codes "B") ∷ interfaces_above family (codes "J") ∷ []
    ≡ (codes "K" ∷ codes "J" ∷ codes "I" ∷ codes "K" ∷ []) ∷ (codes "J" ∷ codes "I" ∷ codes "K" ∷ []) ∷ (codes "I" ∷ []) ∷ []
unfolding most_classes chain_of interfaces_from interfaces_above is_subclass is_subtype field_order resolve_method resolve_field select special_method field_count place_of static_place metered_program raw_program sandbox_program
interfaces_of_a_class = refl

-- in the order of classes and of their fields
static_places : static_count family ∷ static_place family (codes "B") (codes "b") (descs.Field int) ∷ static_place family (codes "B") (codes "x") (descs.Field int) ∷ static_place family (codes "C") (codes "c") (descs.Field int) ∷ static_place family (codes "I") (codes "i") (descs.Field int) ∷ static_place family (codes "K") (codes "k") (descs.Field int) ∷ []
    ≡ 8 ∷ 0 ∷ 1 ∷ 2 ∷ 3 ∷ 7 ∷ []
unfolding most_classes chain_of interfaces_from interfaces_above is_subclass is_subtype field_order resolve_method resolve_field select special_method field_count place_of static_place metered_program raw_program sandbox_program
static_places = refl

-- a class's unnamed fields stand before its own, and after those of its superclass
abbrev unnamed_family : Program
unnamed_family = record (class_with (codes "A") (field_with 0 (codes "a") int None ∷ []) []) { unnamed_fields = 2 } ∷ record (class_with (codes "B") (field_with 0 (codes "b") int None ∷ field_with 0 (codes "c") int None ∷ []) []) { superclass = Some (codes "A"); unnamed_fields = 1 } ∷ []

unnamed_places : map (λ (name : Name). place_of unnamed_family (record { class = codes "B"; field = field_with 0 name int None })) (codes "b" ∷ codes "c" ∷ []) ∷ map (λ (name : Name). place_of unnamed_family (record { class = name; field = field_with 0 (codes "a") int None })) (codes "A" ∷ []) ∷ map (field_count unnamed_family) (codes "A" ∷ codes "B" ∷ []) ∷ []
    ≡ (4 ∷ 5 ∷ []) ∷ (2 ∷ []) ∷ (3 ∷ 6 ∷ []) ∷ []
unfolding most_classes chain_of place_of field_count
unnamed_places = refl
