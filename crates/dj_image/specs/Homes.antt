-- Used by the code alone: what constants are as operands, by what is kept of texts.
use Rattle.std.specs.Prelude.{ℕ, ◌<◌, ⊤, List, length, Option, Some, None, if◌then◌else◌, get_or, option_and_then, IfSome}
use Rattle.dj_pool.specs.trusted.Pool.{Constant, Integer, Long, Class, Text, Field, Method, InterfaceMethod, constant_at, text_at, class_text_of, name_and_type_at}
use Rattle.dj_declarations.specs.Members.{IsDescriptor}
use Rattle.dj_numbering.specs.Typed.{Typed, types_of}
use Rattle.dj_numbering.specs.Members.{resolved_method, resolved_field, found_method_number, found_field_number}
use Rattle.dj_image.specs.declared.operand.Operand.{Operand}
use Rattle.dj_image.specs.declared.operand.Operand.TheVariants as operands
use Rattle.dj_image.specs.Operands.{class_operand, text_operand, method_operand, field_operand}
use Rattle.dj_image.specs.Indexed.{is_array}

-- ---- the class in which members are looked up: those of an array are Object's

abbrev pub home_by : List (Option ℕ) → Option ℕ → ℕ → Option (List ℕ) → Option ℕ
home_by classes object index None = None
home_by classes object index (Some text) = if is_array text then object else get_or classes index None

abbrev pub kept_home : List Constant → List (Option ℕ) → Option ℕ → ℕ → Option ℕ
kept_home pool classes object class =
    option_and_then (λ (index : ℕ). home_by classes object index (text_at pool index)) (option_and_then class_text_of (constant_at pool class))

abbrev pub IsHome : Typed → Option ℕ → Type 0
IsHome types home = IfSome home (λ k. k < length (types_of types))

abbrev pub AreHomes : Typed → List Constant → List (Option ℕ) → Option ℕ → Type 0
AreHomes types pool classes object = (class : ℕ) → IsHome types (kept_home pool classes object class)

abbrev pub IsDescribed : Option (List ℕ × List ℕ) → Type 0
IsDescribed None = ⊤
IsDescribed (Some names) = IsDescriptor names.1

-- ---- members

abbrev pub method_reported : Typed → Option ℕ → Option (List ℕ × List ℕ) → Option ℕ
method_reported types home names =
    option_and_then (λ (n : List ℕ × List ℕ). option_and_then (λ (k : ℕ). found_method_number types.program (resolved_method types k n.0 n.1)) home) names

abbrev pub field_reported : Typed → Option ℕ → Option (List ℕ × List ℕ) → Option ℕ
field_reported types home names =
    option_and_then (λ (n : List ℕ × List ℕ). option_and_then (λ (k : ℕ). found_field_number types.program (resolved_field types k n.0 n.1)) home) names

-- ---- operands

abbrev pub constant_operand : Typed → List Constant → List (Option ℕ) → List (Option ℕ) → Option ℕ → Constant → Operand
constant_operand types pool texts classes object (Integer n) = operands.Int n
constant_operand types pool texts classes object (Long n) = operands.Long n
constant_operand types pool texts classes object (Text text) = text_operand (get_or texts text None)
constant_operand types pool texts classes object (Class text) = class_operand (get_or classes text None)
constant_operand types pool texts classes object (Field class names) = field_operand (field_reported types (kept_home pool classes object class) (name_and_type_at pool names))
constant_operand types pool texts classes object (Method class names) = method_operand (method_reported types (kept_home pool classes object class) (name_and_type_at pool names))
constant_operand types pool texts classes object (InterfaceMethod class names) = method_operand (method_reported types (kept_home pool classes object class) (name_and_type_at pool names))
constant_operand types pool texts classes object k = operands.Unresolved

abbrev pub operand_if : Typed → List Constant → List (Option ℕ) → List (Option ℕ) → Option ℕ → Option Constant → Operand
operand_if types pool texts classes object None = operands.Unresolved
operand_if types pool texts classes object (Some k) = constant_operand types pool texts classes object k

abbrev pub operand_at : Typed → List Constant → List (Option ℕ) → List (Option ℕ) → Option ℕ → ℕ → Operand
operand_at types pool texts classes object index = operand_if types pool texts classes object (constant_at pool index)
