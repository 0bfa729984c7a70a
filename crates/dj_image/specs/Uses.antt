-- Which constants instructions and fields use, by the indexes of the texts that these name.
use Rattle.std.specs.Prelude.{◌≡◌, ◌↔◌, ℕ, Bool, true, false, List, [], ◌∷◌, Option, Some, None, Contains, nat_eq, if◌then◌else◌, slice_get, option_and_then, unwrap_or, ◌+◌, ◌*◌}
use Rattle.std.specs.Option.{option_map}
use Rattle.std.specs.List.{flat_map, filter_map}
use Rattle.dj_names.specs.declared.descriptor.Base.{Base}
use Rattle.dj_names.specs.declared.descriptor.Ty.{Ty}
use Rattle.dj_names.specs.declared.run.Element.{Element}
use Rattle.dj_names.specs.trusted.Types.{array_type, base_array}
use Rattle.dj_ops.specs.declared.instruction.Instr.{Instr}
use Rattle.dj_ops.specs.declared.instruction.Instr.TheVariants as instrs
use Rattle.dj_pool.specs.trusted.Pool.{Constant, Class, Text, Field, Method, InterfaceMethod, constant_at, class_text_of}
use Rattle.dj_model.specs.trusted.Opcodes.{array_rows}
use Rattle.dj_declarations.specs.trusted.Files.{type_in, name_in}
use Rattle.dj_program.specs.trusted.Naming.{units_in}
use Rattle.dj_program.specs.declared.code.MethodCode.{MethodCode}
use Rattle.dj_image.specs.declared.uses.Use.{Use}
use Rattle.dj_image.specs.declared.uses.Use.TheVariants as uses
use Rattle.dj_image.specs.declared.parts.ClassParts.{ClassParts}
use Rattle.dj_image.specs.declared.parts.FieldValue.{FieldValue}
use Rattle.dj_image.specs.declared.parts.FieldValue.TheVariants as values

-- ---- of an instruction

-- the class of a constant; or, where elements are wanted, an array of the class of a class constant
abbrev pub class_use : Bool → List Constant → Constant → Option Use
class_use element pool (Class text) = Some (if element then uses.Element text else uses.Itself text)
class_use element pool (Field class names) = option_map uses.Itself (option_and_then class_text_of (constant_at pool class))
class_use element pool (Method class names) = option_map uses.Itself (option_and_then class_text_of (constant_at pool class))
class_use element pool (InterfaceMethod class names) = option_map uses.Itself (option_and_then class_text_of (constant_at pool class))
class_use element pool k = None

abbrev pub literal_use : ℕ → List Constant → Constant → Option Use
literal_use op pool (Text text) = if nat_eq op 20 then None else Some (uses.Pushed text)
literal_use op pool k = class_use false pool k

abbrev pub use_in : List Constant → Instr → Option Use
use_in pool (instrs.Literal op index) = option_and_then (literal_use op pool) (constant_at pool index)
use_in pool (instrs.Member op index) = option_and_then (class_use false pool) (constant_at pool index)
use_in pool (instrs.Interface index count) = option_and_then (class_use false pool) (constant_at pool index)
use_in pool (instrs.Dynamic index) = option_and_then (class_use false pool) (constant_at pool index)
use_in pool (instrs.Class op index) = option_and_then (class_use (nat_eq op 189) pool) (constant_at pool index)
use_in pool (instrs.Array base) = Some (uses.Base base)
use_in pool (instrs.Multi index dims) = option_and_then (class_use false pool) (constant_at pool index)
use_in pool instr = None

-- ---- what is used

-- the array that newarray makes for a code
abbrev pub base_used : List (ℕ × Base × Element) → ℕ → Option Ty
base_used [] base = None
base_used (row ∷ rest) base = if nat_eq base row.0 then Some (base_array row.1) else base_used rest base

abbrev pub used_type : List Constant → Use → Option Ty
used_type pool (uses.Itself text) = Some (type_in (name_in pool text))
used_type pool (uses.Element text) = Some (array_type (type_in (name_in pool text)))
used_type pool (uses.Base base) = base_used array_rows base
used_type pool (uses.Pushed text) = None

abbrev pub pushed_text : List Constant → Use → Option (List ℕ)
pushed_text pool (uses.Pushed text) = Some (units_in (name_in pool text))
pushed_text pool one = None

-- ---- of all instructions

abbrev pub code_uses : List Constant → Option MethodCode → List Use
code_uses pool None = []
code_uses pool (Some code) = filter_map (use_in pool) code.code.code

abbrev pub class_uses : ClassParts → List Use
class_uses parts = flat_map (code_uses parts.pool) parts.codes.items

-- the types that the instructions of a class use
abbrev pub class_types : ClassParts → List Ty
class_types p = filter_map (used_type p.pool) (class_uses p)

-- the types that instructions of the classes use
abbrev pub used_types : List ClassParts → List Ty
used_types parts = flat_map class_types parts

-- ---- of all fields

abbrev pub value_use : Option FieldValue → Option Use
value_use (Some (values.Text text)) = Some (uses.Pushed text)
value_use value = None

abbrev pub value_uses : ClassParts → List Use
value_uses parts = filter_map value_use parts.values.items

-- ---- lists of the same

abbrev pub SameMembers : {A : Type 0} → List A → List A → Type 0
SameMembers {A} xs ys = (x : A) → Contains xs x ↔ Contains ys x

-- a place of its own for each use
abbrev pub use_place : Use → ℕ
use_place (uses.Base base) = 4 * base
use_place (uses.Itself text) = 4 * text + 1
use_place (uses.Element text) = 4 * text + 2
use_place (uses.Pushed text) = 4 * text + 3

-- what is at a place; past the end nothing is seen
abbrev pub was_seen : List Bool → ℕ → Bool
was_seen seen place = unwrap_or (slice_get seen place) false

-- what was seen is listed
abbrev pub AreSeen : List Bool → List Use → Type 0
AreSeen seen listed = (one : Use) → slice_get seen (use_place one) ≡ Some true → Contains listed one
