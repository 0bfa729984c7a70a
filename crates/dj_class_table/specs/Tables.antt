-- Classes and their members by numbers: a class's number is its place in the program, a member's its place among those of its class.
use Rattle.std.specs.Prelude.{◌≡◌, ℕ, suc, ◌<◌, Bool, List, [], ◌∷◌, ◌++◌, is_none, Option, Some, None, if◌then◌else◌, slice_get, option_and_then, IsFalse}
use Rattle.std.specs.Option.{option_map}
use Rattle.std.specs.List.{flat_map, list_any}
use Rattle.dj_names.specs.trusted.Types.{Name, same_name}
use Rattle.dj_model.specs.trusted.Program.{Program, Class, Method, Field, fields_of, interfaces_of, superclass_of}
use Rattle.dj_model.specs.trusted.Linking.{FoundMethod, FoundField, option_list}
use Rattle.dj_model.specs.trusted.Libraries.{is_name_before}
use Rattle.dj_class_table.specs.declared.place.Place.{Place}

-- ---- classes

abbrev pub name_of : Class → Name
name_of c = c.name

abbrev pub flags_in : Class → ℕ
flags_in c = c.flags

abbrev pub unnamed_fields_in : Class → ℕ
unnamed_fields_in c = c.unnamed_fields

-- the place of the class of this name
abbrev pub class_number : Program → Name → Option ℕ
class_number [] name = None
class_number (c ∷ classes) name = if same_name c.name name then Some 0 else option_map suc (class_number classes name)

-- the places of the classes of these names that are there
abbrev pub class_numbers : Program → List Name → List ℕ
class_numbers program names = flat_map (λ name. option_list (class_number program name)) names

-- the name of the class of a number
abbrev pub name_at : Program → ℕ → Option Name
name_at program class = option_map name_of (slice_get program class)

abbrev pub super_number : Program → ℕ → Option ℕ
super_number program class = option_and_then (class_number program) (superclass_of (slice_get program class))

abbrev pub interface_numbers : Program → ℕ → List ℕ
interface_numbers program class = class_numbers program (interfaces_of (slice_get program class))

-- ---- classes whose superclass or interfaces are absent

-- the program has no class of this name
abbrev pub is_lacking : Program → Name → Bool
is_lacking program name = is_none (class_number program name)

-- the program has no class of the superclass's name, or none of the name of an interface that the class lists
abbrev pub lacks_above : Program → Class → Bool
lacks_above program c = list_any (is_lacking program) (option_list c.superclass ++ c.interfaces)

-- ---- names that classes share

-- two of the classes have this name
pub record IsShared (classes : List Class) (name : Name) : Type 0 where
  pub first : ℕ
  pub other : ℕ
  pub apart : first < other
  pub one : name_at classes first ≡ Some name
  pub two : name_at classes other ≡ Some name

-- the least name that two of the classes have, in the order of bytes
pub record IsLeastShared (classes : List Class) (name : Name) : Type 0 where
  pub shared : IsShared classes name
  pub least : (other : Name) → IsShared classes other → IsFalse (is_name_before other name)

-- ---- members

abbrev pub methods_of : Option Class → List Method
methods_of None = []
methods_of (Some c) = c.methods

abbrev pub methods_at : Program → ℕ → List Method
methods_at program class = methods_of (slice_get program class)

abbrev pub fields_at : Program → ℕ → List Field
fields_at program class = fields_of (slice_get program class)

abbrev pub method_of_class : ℕ → Class → Option FoundMethod
method_of_class member c = option_map (λ m. record { class = c.name; method = m }) (slice_get c.methods member)

abbrev pub field_of_class : ℕ → Class → Option FoundField
field_of_class member c = option_map (λ f. record { class = c.name; field = f }) (slice_get c.fields member)

-- the method at a place
abbrev pub method_there : Program → Place → Option FoundMethod
method_there program place = option_and_then (method_of_class place.member) (slice_get program place.class)

-- the field at a place
abbrev pub field_there : Program → Place → Option FoundField
field_there program place = option_and_then (field_of_class place.member) (slice_get program place.class)
