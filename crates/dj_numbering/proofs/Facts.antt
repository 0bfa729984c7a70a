-- Classes, arrays and members by numbers, by plain values: of classes A and B below it, Cloneable and Object, and of arrays.
use Rattle.std.proofs.Common.{◌≡◌, ℕ, true, false, Bool, List, [], ◌∷◌, ◌++◌, map, codes, refl, sym, ap, ◌∙◌, arith, Option, Some, None}
use Rattle.std.specs.Prelude.{nat_eq}
use Rattle.std.specs.Cmp.Lexicographic.{bytes_decides}
use Rattle.std.specs.Option.{option_map}
use Rattle.std.proofs.lemmas.Bool.{false≢true, eq-eqb}
use Rattle.std.proofs.lemmas.Option.{none-some, same_Some}
use Rattle.dj_names.specs.declared.descriptor.Base.TheVariants as bases
use Rattle.dj_names.specs.declared.descriptor.Ty.{Ty}
use Rattle.dj_names.specs.trusted.Types.{Name, same_name, class_type, base_type, base_array, array_type}
use Rattle.dj_names.specs.Types.{sandbox_prefix}
use Rattle.dj_names.specs.trusted.Library.{int, object_class}
use Rattle.dj_names.specs.trusted.DescReading.{dims_read, name_read, class_read, of_read, type_read, params_read, field_read, return_read, method_read, desc_read}
use Rattle.dj_names.specs.trusted.NameReading.{reads_class_name}
use Rattle.dj_model.specs.trusted.Program.{Program, Class, Method}
use Rattle.dj_model.specs.trusted.Linking.{most_classes, chain_of, interfaces_from, interfaces_above, is_subclass, is_subtype, field_order, resolve_method, resolve_field, select, field_count, FoundMethod, FoundField}
use Rattle.dj_model.specs.SmallRuns.{class_with, field_with, method_with, code}
use Rattle.dj_declarations.specs.trusted.Files.{desc_in}
use Rattle.dj_class_table.specs.Tables.{name_at}
use Rattle.dj_numbering.specs.declared.types.MemberOf.{MemberOf}
use Rattle.dj_numbering.specs.Own.{array_at}
use Rattle.dj_numbering.specs.Typed.{Typed, texts_of, place_of_text, text_number, text_of_type, type_number, type_at, flags_at, super_at, interfaces_at, has_references, component_at, is_subtype_at, string_at, chars_at, stop_at, is_array_of, AreArrays}
use Rattle.dj_numbering.specs.Members.{all_methods, all_fields, methods_before, fields_before, field_count_at, resolved_method, resolved_field, selected, method_number, IsNthMethod, IsNthField, IsMethodThere, IsFieldThere}

-- ---- a program

abbrev runs : ℕ → Name → Method
runs flags name = method_with flags name [] None (code [] [])

-- s is static
abbrev a_class : Class
a_class = record (class_with (codes "A") (field_with 1 (codes "x") int None ∷ field_with 9 (codes "s") int None ∷ []) (runs 1 (codes "m") ∷ runs 9 (codes "n") ∷ [])) {
  interfaces = codes "java/lang/Cloneable" ∷ [];
}

abbrev b_class : Class
b_class = record (class_with (codes "B") (field_with 1 (codes "y") int None ∷ []) (runs 17 (codes "m") ∷ [])) { superclass = Some (codes "A") }

abbrev cloneable_class : Class
cloneable_class = record (class_with (codes "java/lang/Cloneable") [] []) { flags = 1537 }

abbrev base_class : Class
base_class = record (class_with (codes "java/lang/Object") [] (runs 1 (codes "hash") ∷ [])) { superclass = None }

abbrev program : Program
program = a_class ∷ b_class ∷ cloneable_class ∷ base_class ∷ []

abbrev array_of : Name → Ty
array_of name = array_type (class_type name)

abbrev typed : Typed
typed = record {
  program = program;
  prefix = [];
  arrays = base_array bases.Byte ∷ base_array bases.Char ∷ base_array bases.Int ∷ base_array bases.Long ∷ array_of (codes "A") ∷ array_of object_class ∷ array_type (base_array bases.Int) ∷ array_type (array_of (codes "A")) ∷ [];
}

-- ---- what differs

pub other_number : (a b : ℕ) → nat_eq a b ≡ false → Some a ≡ Some b → ⊥
other_number a b differ e = false≢true (sym differ ∙ eq-eqb a b (same_Some a b e))

pub other_name : (a b : Name) → same_name a b ≡ false → a ≡ b → ⊥
other_name a b differ e = false≢true (sym differ ∙ (bytes_decides a b).1 e)

-- ---- texts and types by numbers

texts : texts_of typed
    ≡ codes "A" ∷ codes "B" ∷ codes "java/lang/Cloneable" ∷ codes "java/lang/Object" ∷ codes "[B" ∷ codes "[C" ∷ codes "[I" ∷ codes "[J" ∷ codes "[LA;" ∷ codes "[Ljava/lang/Object;" ∷ codes "[[I" ∷ codes "[[LA;" ∷ []
texts = refl

-- a class by its name and not by its descriptor, and an array that isn't among them has no number
text_numbers : map (text_number typed) (codes "A" ∷ codes "java/lang/Object" ∷ codes "[B" ∷ codes "[[LA;" ∷ codes "LA;" ∷ codes "[Z" ∷ codes "[[B" ∷ codes "I" ∷ codes "" ∷ [])
    ≡ Some 0 ∷ Some 3 ∷ Some 4 ∷ Some 11 ∷ None ∷ None ∷ None ∷ None ∷ None ∷ []
text_numbers = refl

-- of a text that is repeated the first place
first_place : map (place_of_text (codes "b" ∷ codes "a" ∷ codes "a" ∷ codes "b" ∷ [])) (codes "a" ∷ codes "b" ∷ codes "c" ∷ [])
    ≡ Some 1 ∷ Some 0 ∷ None ∷ []
first_place = refl

-- and so of a class of an array's descriptor, which is before the array
class_first : text_number (record typed { program = record b_class { name = codes "[I" } ∷ [] }) (codes "[I") ≡ Some 0
class_first = refl

types : map (type_at typed) (1 ∷ 6 ∷ 9 ∷ 11 ∷ 12 ∷ [])
    ≡ class_type (codes "B") ∷ base_array bases.Int ∷ array_of object_class ∷ array_type (array_of (codes "A")) ∷ class_type [] ∷ []
types = refl

texts_of_types : map text_of_type (class_type (codes "A") ∷ array_of (codes "A") ∷ base_array bases.Long ∷ array_type (base_array bases.Boolean) ∷ [])
    ≡ codes "A" ∷ codes "[LA;" ∷ codes "[J" ∷ codes "[[Z" ∷ []
texts_of_types = refl

type_numbers : map (type_number typed) (class_type (codes "B") ∷ array_of (codes "A") ∷ array_of (codes "B") ∷ base_array bases.Char ∷ base_array bases.Short ∷ base_type bases.Int ∷ [])
    ≡ Some 1 ∷ Some 8 ∷ None ∷ Some 5 ∷ None ∷ None ∷ []
type_numbers = refl

-- ---- what is known of a number

-- of an array, and past the last number, there are no flags
flags : map (flags_at typed) (0 ∷ 2 ∷ 6 ∷ 9 ∷ 12 ∷ []) ≡ 33 ∷ 1537 ∷ 0 ∷ 0 ∷ 0 ∷ []
flags = refl

-- Object has no superclass, nor has an array
supers : map (super_at typed) (0 ∷ 1 ∷ 2 ∷ 3 ∷ 6 ∷ 8 ∷ []) ≡ Some 3 ∷ Some 0 ∷ Some 3 ∷ None ∷ None ∷ None ∷ []
supers = refl

-- an array lists no interfaces
interfaces : map (interfaces_at typed) (0 ∷ 1 ∷ 6 ∷ 8 ∷ []) ≡ (2 ∷ []) ∷ [] ∷ [] ∷ [] ∷ []
interfaces = refl

-- of arrays of base types, and of classes, there are no components
components : map (component_at typed) (0 ∷ 3 ∷ 4 ∷ 6 ∷ 7 ∷ 8 ∷ 9 ∷ 10 ∷ 11 ∷ 12 ∷ [])
    ≡ None ∷ None ∷ None ∷ None ∷ None ∷ Some 0 ∷ Some 3 ∷ Some 6 ∷ Some 8 ∷ None ∷ []
components = refl

-- nor is there one where the elements are arrays that have no number
component_missing : map (component_at (record typed { arrays = array_type (base_array bases.Int) ∷ [] })) (0 ∷ 4 ∷ []) ≡ None ∷ None ∷ []
component_missing = refl

references : map has_references (class_type (codes "A") ∷ int ∷ base_array bases.Int ∷ base_array bases.Long ∷ array_of (codes "A") ∷ array_type (base_array bases.Long) ∷ [])
    ≡ false ∷ false ∷ false ∷ false ∷ true ∷ true ∷ []
references = refl

-- none of String and of the object that stops a run in this program
library_numbers : string_at typed ∷ chars_at typed ∷ stop_at typed ∷ [] ≡ None ∷ Some 5 ∷ None ∷ []
library_numbers = refl

-- arrays of booleans, shorts, floats and doubles have no numbers in it
array_numbers : map (array_at typed) (bases.Boolean ∷ bases.Byte ∷ bases.Char ∷ bases.Short ∷ bases.Int ∷ bases.Long ∷ bases.Float ∷ bases.Double ∷ [])
    ≡ None ∷ Some 4 ∷ Some 5 ∷ None ∷ Some 6 ∷ Some 7 ∷ None ∷ None ∷ []
array_numbers = refl

abbrev rewritten : Typed
rewritten = record {
  program = class_with (codes "djvm/Stop") [] [] ∷ class_with (codes "java/lang/String") [] [] ∷ class_with (codes "sandbox/java/lang/Cloneable") [] [] ∷ class_with (codes "sandbox/java/lang/String") [] [] ∷ [];
  prefix = sandbox_prefix;
  arrays = base_array bases.Int ∷ [];
}

-- of rewritten classes String is the one of the package
rewritten_numbers : string_at rewritten ∷ chars_at rewritten ∷ stop_at rewritten ∷ string_at (record rewritten { prefix = [] }) ∷ []
    ≡ Some 3 ∷ None ∷ Some 0 ∷ Some 1 ∷ []
rewritten_numbers = refl

-- under no prefix a class of that name doesn't stop a run
plain_stop : stop_at (record rewritten { prefix = [] }) ≡ None
plain_stop = refl

-- ---- subtypes

abbrev below : List ℕ → ℕ → List Bool
below classes b = map (λ (a : ℕ). is_subtype_at typed a b) classes

-- A, B, Cloneable, Object, [I, [J, [LA;, [Ljava/lang/Object;, [[I and [[LA;
abbrev each : List ℕ
each = 0 ∷ 1 ∷ 2 ∷ 3 ∷ 6 ∷ 7 ∷ 8 ∷ 9 ∷ 10 ∷ 11 ∷ []

below_a : below each 0 ≡ true ∷ true ∷ false ∷ false ∷ false ∷ false ∷ false ∷ false ∷ false ∷ false ∷ []
unfolding most_classes chain_of interfaces_from interfaces_above is_subclass is_subtype
below_a = refl

-- each array is a Cloneable
below_cloneable : below each 2 ≡ true ∷ true ∷ true ∷ false ∷ true ∷ true ∷ true ∷ true ∷ true ∷ true ∷ []
unfolding most_classes chain_of interfaces_from interfaces_above is_subclass is_subtype
below_cloneable = refl

below_object : below each 3 ≡ true ∷ true ∷ true ∷ true ∷ true ∷ true ∷ true ∷ true ∷ true ∷ true ∷ []
unfolding most_classes chain_of interfaces_from interfaces_above is_subclass is_subtype
below_object = refl

-- arrays of ints are no other arrays
below_ints : below each 6 ≡ false ∷ false ∷ false ∷ false ∷ true ∷ false ∷ false ∷ false ∷ false ∷ false ∷ []
unfolding most_classes chain_of interfaces_from interfaces_above is_subclass is_subtype
below_ints = refl

-- an array of ints is no array of objects, but an array of such arrays is one
below_objects : below each 9 ≡ false ∷ false ∷ false ∷ false ∷ false ∷ false ∷ true ∷ true ∷ true ∷ true ∷ []
unfolding most_classes chain_of interfaces_from interfaces_above is_subclass is_subtype
below_objects = refl

below_as : below each 8 ≡ false ∷ false ∷ false ∷ false ∷ false ∷ false ∷ true ∷ false ∷ false ∷ false ∷ []
unfolding most_classes chain_of interfaces_from interfaces_above is_subclass is_subtype
below_as = refl

-- Cloneable is the one of the package, of rewritten classes
below_rewritten : is_subtype_at rewritten 4 2 ∷ is_subtype_at (record rewritten { prefix = [] }) 4 2 ∷ [] ≡ true ∷ false ∷ []
unfolding most_classes chain_of interfaces_from interfaces_above is_subclass is_subtype
below_rewritten = refl

-- ---- arrays that have numbers

are_arrays : AreArrays program typed.arrays
are_arrays = record { each = refl; rise = refl }

-- 1 to 255 dimensions, of base types and of classes that are there
arrays_each : map (is_array_of program) (base_array bases.Int ∷ int ∷ class_type (codes "A") ∷ array_of (codes "A") ∷ array_of (codes "C") ∷ record { dims = 255; of = int.of } ∷ record { dims = 256; of = int.of } ∷ [])
    ≡ true ∷ false ∷ false ∷ true ∷ false ∷ true ∷ false ∷ []
arrays_each = refl

no_base_type : AreArrays program (int ∷ []) → ⊥
no_base_type arrays = false≢true arrays.each

no_class : AreArrays program (class_type (codes "A") ∷ []) → ⊥
no_class arrays = false≢true arrays.each

none_of_missing : AreArrays program (array_of (codes "C") ∷ []) → ⊥
none_of_missing arrays = false≢true arrays.each

none_too_deep : AreArrays program (record { dims = 256; of = int.of } ∷ []) → ⊥
none_too_deep arrays = false≢true arrays.each

-- each one is listed once, in order
not_twice : AreArrays program (base_array bases.Int ∷ base_array bases.Int ∷ []) → ⊥
not_twice arrays = false≢true arrays.rise

not_in_order : AreArrays program (base_array bases.Byte ∷ base_array bases.Int ∷ base_array bases.Char ∷ []) → ⊥
not_in_order arrays = false≢true arrays.rise

-- ---- members by numbers

abbrev name_of_method : FoundMethod → List Name
name_of_method found = found.class ∷ found.method.name ∷ []

abbrev name_of_field : FoundField → List Name
name_of_field found = found.class ∷ found.field.name ∷ []

methods : map name_of_method (all_methods program) ≡ (codes "A" ∷ codes "m" ∷ []) ∷ (codes "A" ∷ codes "n" ∷ []) ∷ (codes "B" ∷ codes "m" ∷ []) ∷ (codes "java/lang/Object" ∷ codes "hash" ∷ []) ∷ []
unfolding all_methods
methods = refl

fields : map name_of_field (all_fields program) ≡ (codes "A" ∷ codes "x" ∷ []) ∷ (codes "A" ∷ codes "s" ∷ []) ∷ (codes "B" ∷ codes "y" ∷ []) ∷ []
unfolding all_fields
fields = refl

before : map (methods_before program) (0 ∷ 1 ∷ 2 ∷ 3 ∷ 4 ∷ 9 ∷ []) ++ map (fields_before program) (0 ∷ 1 ∷ 2 ∷ 3 ∷ [])
    ≡ 0 ∷ 2 ∷ 3 ∷ 3 ∷ 4 ∷ 4 ∷ 0 ∷ 2 ∷ 3 ∷ 3 ∷ []
unfolding all_methods all_fields
before = refl

second_method : IsNthMethod typed 0 1 (Some 1)
unfolding all_methods
second_method = refl

-- those of the classes before are counted
method_of_b : IsNthMethod typed 1 0 (Some 2)
unfolding all_methods
method_of_b = refl

not_counted : IsNthMethod typed 1 0 (Some 0) → ⊥
unfolding all_methods
not_counted reported = other_number 0 2 refl reported

-- past the last method of a class there is none, though the next class has one; nor has an array one
no_third : IsNthMethod typed 0 2 None
unfolding all_methods
no_third = refl

not_of_next : IsNthMethod typed 0 2 (Some 2) → ⊥
unfolding all_methods
not_of_next reported = none-some 2 (sym reported)

none_of_array : IsNthMethod typed 6 0 None × IsNthField typed 6 0 None
unfolding all_methods all_fields
none_of_array = (refl, refl)

field_of_b : IsNthField typed 1 0 (Some 2)
unfolding all_fields
field_of_b = refl

field_not_counted : IsNthField typed 1 0 (Some 0) → ⊥
unfolding all_fields
field_not_counted reported = other_number 0 2 refl reported

no_second_field : IsNthField typed 1 1 (Some 3) → ⊥
unfolding all_fields
no_second_field reported = none-some 3 (sym reported)

-- ---- numbers of what is found

-- the first one of the class with the name and the descriptor, by its place among those of all classes
abbrev twice : List FoundMethod
twice =
    record { class = codes "A"; method = runs 1 (codes "m") }
    ∷ record { class = codes "B"; method = runs 1 (codes "m") }
    ∷ record { class = codes "B"; method = runs 9 (codes "m") }
    ∷ []

first_of_class : method_number twice (record { class = codes "B"; method = runs 9 (codes "m") }) ≡ Some 1
first_of_class = refl

none_of_name : method_number twice (record { class = codes "B"; method = runs 9 (codes "n") }) ≡ None
none_of_name = refl

none_of_class : method_number twice (record { class = codes "C"; method = runs 9 (codes "m") }) ≡ None
none_of_class = refl

-- ---- what is known of a member

method_reported : (reported : MemberOf) → reported.class ≡ 1 → reported.flags ≡ 17 → reported.name.now ≡ codes "m" → reported.desc.now ≡ codes "()V" → IsMethodThere typed 2 reported
unfolding all_methods
method_reported reported class flags name desc = record {
  found = record { class = codes "B"; method = runs 17 (codes "m") };
  there = refl;
  class = ap (λ (k : ℕ). name_at program k) class;
  flags = flags;
  name = name;
  desc = record { text_is = desc; valid = (tt, tt, omega arith) };
}

-- the method of the class below isn't the one of the class
not_of_a : (reported : MemberOf) → IsMethodThere typed 2 reported → reported.class ≡ 0 → ⊥
unfolding all_methods
not_of_a reported is class =
    let found = same_Some (record { class = codes "B"; method = runs 17 (codes "m") }) is.found is.there in
    let named : Some (codes "A") ≡ Some (codes "B") = ap (λ (k : ℕ). name_at program k) (sym class) ∙ is.class ∙ ap (λ (f : FoundMethod). Some f.class) (sym found) in
    other_name (codes "A") (codes "B") refl (same_Some (codes "A") (codes "B") named)

field_reported : (reported : MemberOf) → reported.class ≡ 0 → reported.flags ≡ 9 → reported.name.now ≡ codes "s" → reported.desc.now ≡ codes "I" → IsFieldThere typed 1 reported
unfolding all_fields
field_reported reported class flags name desc = record {
  found = record { class = codes "A"; field = field_with 9 (codes "s") int None };
  there = refl;
  class = ap (λ (k : ℕ). name_at program k) class;
  flags = flags;
  name = name;
  desc = record { text_is = desc; valid = record { few = omega arith; named = tt } };
}

not_named_otherwise : (reported : MemberOf) → IsFieldThere typed 1 reported → reported.name.now ≡ codes "x" → ⊥
unfolding all_fields
not_named_otherwise reported is name =
    let found = same_Some (record { class = codes "A"; field = field_with 9 (codes "s") int None }) is.found is.there in
    other_name (codes "x") (codes "s") refl (sym name ∙ is.name ∙ ap (λ (f : FoundField). f.field.name) (sym found))

-- ---- fields of objects

-- with those of the superclass, and without static ones; arrays have none, whatever their elements are
field_counts : map (field_count_at typed) (0 ∷ 1 ∷ 2 ∷ 3 ∷ 4 ∷ 8 ∷ 11 ∷ []) ≡ 1 ∷ 2 ∷ 0 ∷ 0 ∷ 0 ∷ 0 ∷ 0 ∷ []
unfolding most_classes chain_of field_count
field_counts = refl

-- ---- resolution and selection

abbrev found_method : ℕ → Name → Option (List Name)
found_method class name = option_map name_of_method (resolved_method typed class name (codes "()V"))

-- in B itself, above it, and of an array in Object
resolved_methods : found_method 1 (codes "m") ∷ found_method 0 (codes "m") ∷ found_method 1 (codes "n") ∷ found_method 6 (codes "hash") ∷ found_method 6 (codes "m") ∷ found_method 3 (codes "m") ∷ []
    ≡ Some (codes "B" ∷ codes "m" ∷ []) ∷ Some (codes "A" ∷ codes "m" ∷ []) ∷ Some (codes "A" ∷ codes "n" ∷ []) ∷ Some (codes "java/lang/Object" ∷ codes "hash" ∷ []) ∷ None ∷ None ∷ []
unfolding reads_class_name dims_read name_read class_read of_read type_read params_read field_read return_read method_read desc_read desc_in most_classes chain_of interfaces_from interfaces_above resolve_method
resolved_methods = refl

abbrev found_field : ℕ → Name → Name → Option (List Name)
found_field class name desc = option_map name_of_field (resolved_field typed class name desc)

-- another descriptor is another field's
resolved_fields : found_field 1 (codes "x") (codes "I") ∷ found_field 1 (codes "y") (codes "I") ∷ found_field 1 (codes "x") (codes "J") ∷ found_field 0 (codes "y") (codes "I") ∷ found_field 8 (codes "x") (codes "I") ∷ []
    ≡ Some (codes "A" ∷ codes "x" ∷ []) ∷ Some (codes "B" ∷ codes "y" ∷ []) ∷ None ∷ None ∷ None ∷ []
unfolding reads_class_name dims_read name_read class_read of_read type_read params_read field_read return_read method_read desc_read desc_in most_classes chain_of interfaces_from field_order resolve_field
resolved_fields = refl

abbrev taken : ℕ → ℕ → Option (List Name)
taken method class = option_map name_of_method (selected typed method class)

-- the method of B where that of A is called on a B, and Object's on an array; past the last number there is none
selected_methods : taken 0 1 ∷ taken 0 0 ∷ taken 3 1 ∷ taken 3 6 ∷ taken 4 1 ∷ []
    ≡ Some (codes "B" ∷ codes "m" ∷ []) ∷ Some (codes "A" ∷ codes "m" ∷ []) ∷ Some (codes "java/lang/Object" ∷ codes "hash" ∷ []) ∷ Some (codes "java/lang/Object" ∷ codes "hash" ∷ []) ∷ None ∷ []
unfolding all_methods most_classes chain_of select
selected_methods = refl
