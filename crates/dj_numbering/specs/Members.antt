-- Fields and methods by numbers: their places in the order of classes and of the members that each declares.
use Rattle.std.specs.Prelude.{◌≡◌, ℕ, suc, ◌+◌, ◌<◌, ◌&&◌, List, [], ◌∷◌, map, take, length, Option, Some, None, nat_lt, if◌then◌else◌, slice_get, option_and_then, unwrap_or}
use Rattle.std.specs.Option.{option_map}
use Rattle.std.specs.List.{flat_map}
use Rattle.dj_names.specs.trusted.Types.{Name, same_name}
use Rattle.dj_names.specs.declared.native.NativeId.{NativeId}
use Rattle.dj_names.specs.trusted.Descriptors.{Describes}
use Rattle.dj_model.specs.trusted.Types.{Member}
use Rattle.dj_model.specs.trusted.Program.{Program, Class, is_named}
use Rattle.dj_model.specs.trusted.Linking.{FoundMethod, FoundField, resolve_method, resolve_field, select, special_method, field_count}
use Rattle.dj_declarations.specs.trusted.Files.{desc_in}
use Rattle.dj_declarations.specs.Members.{method_native}
use Rattle.dj_class_table.specs.Tables.{methods_at, fields_at, name_at}
use Rattle.dj_class_table.specs.declared.place.Place.{Place}
use Rattle.dj_resolution.specs.Linked.{class_name}
use Rattle.dj_numbering.specs.declared.types.MethodId.{MethodId}
use Rattle.dj_numbering.specs.declared.types.FieldId.{FieldId}
use Rattle.dj_numbering.specs.declared.types.MemberOf.{MemberOf}
use Rattle.dj_numbering.specs.Typed.{Typed, type_at}

abbrev pub methods_in : Class → List FoundMethod
methods_in c = map (λ m. record { class = c.name; method = m }) c.methods

abbrev pub fields_in : Class → List FoundField
fields_in c = map (λ f. record { class = c.name; field = f }) c.fields

unfoldable pub all_methods : Program → List FoundMethod
all_methods program = flat_map methods_in program

unfoldable pub all_fields : Program → List FoundField
all_fields program = flat_map fields_in program

-- a member of this name and of the descriptor that the text spells, looked for in the class or the array of this number
abbrev pub member_at : Typed → ℕ → Name → List ℕ → Member
member_at typed class name desc = record { class = type_at typed class; name = name; desc = desc_in desc }

abbrev pub resolved_method : Typed → ℕ → Name → List ℕ → Option FoundMethod
resolved_method typed class name desc = resolve_method typed.program typed.prefix (member_at typed class name desc)

abbrev pub resolved_field : Typed → ℕ → Name → List ℕ → Option FoundField
resolved_field typed class name desc = resolve_field typed.program typed.prefix (member_at typed class name desc)

-- the method that is taken where a method of this number is called on an object of the class or the array of that number
abbrev pub selected : Typed → ℕ → ℕ → Option FoundMethod
selected typed method class =
    option_and_then (λ (found : FoundMethod). select typed.program typed.prefix found (type_at typed class)) (slice_get (all_methods typed.program) method)

-- the method that invokespecial takes in the class of that number for a method of this number
abbrev pub special_of : Typed → ℕ → ℕ → Option FoundMethod
special_of typed method class = option_and_then (special_method typed.program (class_name typed.program class)) (slice_get (all_methods typed.program) method)

-- the number of a method that was found: that of the first one of its class with its name and its descriptor
abbrev pub method_number : List FoundMethod → FoundMethod → Option ℕ
method_number [] found = None
method_number (f ∷ all) found =
    if same_name f.class found.class && is_named found.method.name found.method.desc f.method.name f.method.desc then Some 0
    else option_map suc (method_number all found)

abbrev pub field_number : List FoundField → FoundField → Option ℕ
field_number [] found = None
field_number (f ∷ all) found =
    if same_name f.class found.class && is_named found.field.name found.field.desc f.field.name f.field.desc then Some 0
    else option_map suc (field_number all found)

abbrev pub found_method_number : Program → Option FoundMethod → Option ℕ
found_method_number program found = option_and_then (method_number (all_methods program)) found

abbrev pub found_field_number : Program → Option FoundField → Option ℕ
found_field_number program found = option_and_then (field_number (all_fields program)) found

-- how many instance fields a class has, inherited ones included; an array has none
abbrev pub field_count_at : Typed → ℕ → ℕ
field_count_at typed class = unwrap_or (option_map (field_count typed.program) (name_at typed.program class)) 0

abbrev pub number_of_method : MethodId → ℕ
number_of_method id = id.number

abbrev pub number_of_field : FieldId → ℕ
number_of_field id = id.number

-- a number and what it is the number of: the member at a place of a class
abbrev pub method_of_class : ℕ → Class → Option FoundMethod
method_of_class at c = slice_get (methods_in c) at

abbrev pub field_of_class : ℕ → Class → Option FoundField
field_of_class at c = slice_get (fields_in c) at

abbrev pub methods_before : Program → ℕ → ℕ
methods_before program class = length (all_methods (take class program))

abbrev pub fields_before : Program → ℕ → ℕ
fields_before program class = length (all_fields (take class program))

-- the number of the method at a place of a class: this many stand in the classes before it
abbrev pub IsNthMethod : Typed → ℕ → ℕ → Option ℕ → Type 0
IsNthMethod typed class at number =
    number ≡ (if nat_lt at (length (methods_at typed.program class)) then Some (methods_before typed.program class + at) else None)

abbrev pub IsNthField : Typed → ℕ → ℕ → Option ℕ → Type 0
IsNthField typed class at number =
    number ≡ (if nat_lt at (length (fields_at typed.program class)) then Some (fields_before typed.program class + at) else None)

-- what is answered for the method of a number
pub record IsMethodThere (typed : Typed) (number : ℕ) (reported : MemberOf) : Type 0 where
  pub found : FoundMethod
  pub there : slice_get (all_methods typed.program) number ≡ Some found
  pub class : name_at typed.program reported.class ≡ Some found.class
  pub flags : reported.flags ≡ found.method.flags
  pub name : reported.name.now ≡ found.method.name
  pub desc : Describes reported.desc.now found.method.desc

pub record IsFieldThere (typed : Typed) (number : ℕ) (reported : MemberOf) : Type 0 where
  pub found : FoundField
  pub there : slice_get (all_fields typed.program) number ≡ Some found
  pub class : name_at typed.program reported.class ≡ Some found.class
  pub flags : reported.flags ≡ found.field.flags
  pub name : reported.name.now ≡ found.field.name
  pub desc : Describes reported.desc.now found.field.desc

-- ---- places

-- the method of a number stands at a place: this many methods stand in the classes before it
pub record IsMethodPlace (typed : Typed) (number : ℕ) (place : Place) : Type 0 where
  pub within : place.member < length (methods_at typed.program place.class)
  pub is : number ≡ methods_before typed.program place.class + place.member

pub record IsFieldPlace (typed : Typed) (number : ℕ) (place : Place) : Type 0 where
  pub within : place.member < length (fields_at typed.program place.class)
  pub is : number ≡ fields_before typed.program place.class + place.member

-- ---- methods of the library

abbrev pub native_of : FoundMethod → Option NativeId
native_of found = method_native found.method

-- what a native method of the library is; none of a method that has code, or neither
abbrev pub native_at : Program → ℕ → Option NativeId
native_at program number = option_and_then native_of (slice_get (all_methods program) number)
