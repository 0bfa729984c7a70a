-- Classes and arrays by numbers: first the classes of a program, in order, and then arrays.
use Rattle.std.specs.Prelude.{◌≡◌, ℕ, suc, Bool, true, false, ◌&&◌, List, [], ◌∷◌, ◌++◌, map, Option, Some, None, nat_eq, nat_le, if◌then◌else◌, slice_get, option_and_then, unwrap_or, IsTrue}
use Rattle.std.specs.Option.{option_map}
use Rattle.std.specs.List.{list_all}
use Rattle.dj_names.specs.declared.descriptor.Base.TheVariants as bases
use Rattle.dj_names.specs.declared.descriptor.Ty.{Ty}
use Rattle.dj_names.specs.declared.descriptor.Of.{Of}
use Rattle.dj_names.specs.declared.descriptor.Of.TheVariants as ofs
use Rattle.dj_names.specs.trusted.Types.{Name, same_name, class_type, base_array, component_type}
use Rattle.dj_names.specs.trusted.Descriptors.{type_text}
use Rattle.dj_names.specs.trusted.Library.{stop_class}
use Rattle.dj_model.specs.trusted.Types.{Prefix, string_name}
use Rattle.dj_model.specs.trusted.Program.{Program, flags_of, interfaces_of, superclass_of}
use Rattle.dj_model.specs.trusted.Linking.{is_subtype}
use Rattle.dj_model.specs.trusted.Libraries.{is_name_before}
use Rattle.dj_class_table.specs.Tables.{name_of, name_at, class_number, class_numbers}

pub record Typed : Type 0 where
  pub program : Program
  -- what stands before the names of the library's classes
  pub prefix : Prefix
  -- in the order of the bytes of their descriptors
  pub arrays : List Ty

-- ---- names and types by numbers

-- the name of each class, and the descriptor of each array
abbrev pub texts_of : Typed → List Name
texts_of typed = map name_of typed.program ++ map type_text typed.arrays

abbrev pub types_of : Typed → List Ty
types_of typed = map (λ c. class_type (name_of c)) typed.program ++ typed.arrays

-- the first place of a text
abbrev pub place_of_text : List Name → Name → Option ℕ
place_of_text [] text = None
place_of_text (x ∷ texts) text = if same_name x text then Some 0 else option_map suc (place_of_text texts text)

-- the number of the class of this name, or of the array of this descriptor
abbrev pub text_number : Typed → Name → Option ℕ
text_number typed text = place_of_text (texts_of typed) text

abbrev pub text_of_type : Ty → Name
text_of_type ty = class_text ty.dims ty.of where
  class_text : ℕ → Of → Name
  class_text dims (ofs.Base base) = type_text (record { dims = dims; of = ofs.Base base })
  class_text dims (ofs.Class name) = if nat_eq dims 0 then name else type_text (record { dims = dims; of = ofs.Class name })

-- the number of a class or an array
abbrev pub type_number : Typed → Ty → Option ℕ
type_number typed ty = text_number typed (text_of_type ty)

-- the class or the array of a number
abbrev pub type_at : Typed → ℕ → Ty
type_at typed class = unwrap_or (slice_get (types_of typed) class) (class_type [])

-- ---- what is answered for a number

-- of an array there are no flags
abbrev pub flags_at : Typed → ℕ → ℕ
flags_at typed class = flags_of (slice_get typed.program class)

abbrev pub super_at : Typed → ℕ → Option ℕ
super_at typed class = option_and_then (class_number typed.program) (superclass_of (slice_get typed.program class))

abbrev pub interfaces_at : Typed → ℕ → List ℕ
interfaces_at typed class = class_numbers typed.program (interfaces_of (slice_get typed.program class))

-- the elements are arrays, or objects of a class
abbrev pub has_references : Ty → Bool
has_references ty = of_references ty.dims ty.of where
  of_references : ℕ → Of → Bool
  of_references dims (ofs.Base base) = nat_le 2 dims
  of_references dims (ofs.Class name) = nat_le 1 dims

-- what the elements of an array of references are
abbrev pub component_at : Typed → ℕ → Option ℕ
component_at typed class = if has_references (type_at typed class) then type_number typed (component_type (type_at typed class)) else None

abbrev pub is_subtype_at : Typed → ℕ → ℕ → Bool
is_subtype_at typed a b = is_subtype typed.program typed.prefix (type_at typed a) (type_at typed b)

abbrev pub string_at : Typed → Option ℕ
string_at typed = class_number typed.program (string_name typed.prefix)

abbrev pub chars_at : Typed → Option ℕ
chars_at typed = type_number typed (base_array bases.Char)

abbrev pub stop_under : Prefix → Program → Option ℕ
stop_under [] program = None
stop_under (c ∷ prefix) program = class_number program stop_class

-- the class of the object that stops a run; only programs of rewritten classes have it
abbrev pub stop_at : Typed → Option ℕ
stop_at typed = stop_under typed.prefix typed.program

-- ---- names of classes and descriptors of arrays

-- the text begins with a bracket, as the descriptor of an array does
abbrev pub begins_array : Name → Bool
begins_array [] = false
begins_array (b ∷ more) = nat_eq b 91

-- the name of no class does
abbrev pub ArePlain : Program → Type 0
ArePlain program = (k : ℕ) (name : Name) → name_at program k ≡ Some name → begins_array name ≡ false

-- ---- arrays that have numbers

-- the class of an array's elements is there
abbrev pub is_known_of : Program → Of → Bool
is_known_of program (ofs.Base base) = true
is_known_of program (ofs.Class name) = is_there (class_number program name) where
  is_there : Option ℕ → Bool
  is_there None = false
  is_there (Some n) = true

abbrev pub is_array_of : Program → Ty → Bool
is_array_of program ty = nat_le 1 ty.dims && (nat_le ty.dims 255 && is_known_of program ty.of)

abbrev pub arrays_rise : List Ty → Bool
arrays_rise [] = true
arrays_rise (a ∷ []) = true
arrays_rise (a ∷ (b ∷ more)) = is_name_before (type_text a) (type_text b) && arrays_rise (b ∷ more)

-- arrays of base types and of classes that are there, each once, in the order of the bytes of their descriptors
pub record AreArrays (program : Program) (arrays : List Ty) : Type 0 where
  pub each : IsTrue (list_all (is_array_of program) arrays)
  pub rise : IsTrue (arrays_rise arrays)
