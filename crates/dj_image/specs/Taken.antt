-- Used by the code alone: what instructions take, by what is kept of constants.
use Rattle.std.specs.Prelude.{ℕ, ◌&&◌, Bool, true, false, List, [], ◌∷◌, Option, Some, None, nat_eq, nat_le, if◌then◌else◌, get_or, slice_get, option_and_then}
use Rattle.std.specs.Option.{option_map}
use Rattle.std.specs.Global.{Vec}
use Rattle.dj_names.specs.declared.descriptor.Base.{Base}
use Rattle.dj_names.specs.declared.run.Element.{Element}
use Rattle.dj_names.specs.trusted.Types.{Name, base_array}
use Rattle.dj_ops.specs.declared.instruction.Instr.{Instr}
use Rattle.dj_ops.specs.declared.instruction.Instr.TheVariants as instrs
use Rattle.dj_labels.specs.declared.labelled.Protected.{Protected}
use Rattle.dj_pool.specs.trusted.Pool.{Constant, InterfaceMethod, constant_at}
use Rattle.dj_model.specs.trusted.Opcodes.{array_rows}
use Rattle.dj_early_rules.specs.trusted.Instructions.{index_of}
use Rattle.dj_class_table.specs.declared.place.Place.{Place}
use Rattle.dj_program.specs.declared.code.MethodCode.{MethodCode}
use Rattle.dj_numbering.specs.Typed.{Typed, text_number, text_of_type}
use Rattle.dj_image.specs.declared.operand.Operand.{Operand}
use Rattle.dj_image.specs.declared.operand.Operand.TheVariants as operands
use Rattle.dj_image.specs.declared.parts.ClassParts.{ClassParts}
use Rattle.dj_image.specs.Operands.{class_operand}

-- ---- which operands an instruction takes

abbrev pub is_interface_method : Option Constant → Bool
is_interface_method (Some (InterfaceMethod class names)) = true
is_interface_method constant = false

-- the constant at an index is a method of an interface
abbrev pub interface_at : List Constant → ℕ → Bool
interface_at pool index = is_interface_method (constant_at pool index)

abbrev pub takes_literal : ℕ → Operand → Bool
takes_literal op (operands.Int z) = nat_le op 19
takes_literal op (operands.Text n) = nat_le op 19
takes_literal op (operands.Class n) = nat_le op 19
takes_literal op (operands.Long z) = nat_eq op 20
takes_literal op operand = false

abbrev pub takes_member : ℕ → Bool → Operand → Bool
takes_member op interface (operands.Field n) = nat_le op 181
takes_member op interface (operands.Method n) = if interface then nat_le 183 op else nat_le 182 op
takes_member op interface operand = false

abbrev pub is_method : Operand → Bool
is_method (operands.Method n) = true
is_method operand = false

abbrev pub is_class : Operand → Bool
is_class (operands.Class n) = true
is_class operand = false

abbrev pub takes_operand : Instr → Bool → Operand → Bool
takes_operand (instrs.Literal op index) interface operand = takes_literal op operand
takes_operand (instrs.Member op index) interface operand = takes_member op interface operand
takes_operand (instrs.Interface index count) interface operand = interface && is_method operand
takes_operand (instrs.Class op index) interface operand = is_class operand
takes_operand (instrs.Multi index dims) interface operand = is_class operand
takes_operand instr interface operand = false

-- ---- the operand of an instruction, by the tables of its class

abbrev pub indexed_operand : List Constant → List Operand → Instr → Option ℕ → Operand
indexed_operand pool kept instr None = operands.Nothing
indexed_operand pool kept instr (Some index) =
    if takes_operand instr (interface_at pool index) (get_or kept index operands.Unresolved) then get_or kept index operands.Unresolved else operands.Unresolved

-- the descriptor of the array that newarray makes
abbrev pub base_text : List (ℕ × Base × Element) → ℕ → Option Name
base_text [] base = None
base_text (row ∷ rest) base = if nat_eq base row.0 then Some (text_of_type (base_array row.1)) else base_text rest base

abbrev pub base_operand : Typed → Option Name → Operand
base_operand types None = operands.Nothing
base_operand types (Some text) = class_operand (text_number types text)

abbrev pub class_kept : List Constant → List Operand → List (Option ℕ) → ℕ → ℕ → Operand
class_kept pool kept made op index =
    if nat_eq op 189 then class_operand (get_or made index None) else indexed_operand pool kept (instrs.Class op index) (Some index)

unfoldable pub kept_operand : Typed → List Constant → List Operand → List (Option ℕ) → Instr → Operand
kept_operand types pool kept made (instrs.Array base) = base_operand types (base_text array_rows base)
kept_operand types pool kept made (instrs.Class op index) = class_kept pool kept made op index
kept_operand types pool kept made instr = indexed_operand pool kept instr (index_of instr)

-- ---- what is at places

abbrev pub code_kept : List ClassParts → Place → Option MethodCode
code_kept parts place =
    option_and_then (λ (p : ClassParts). option_and_then (λ (code : Option MethodCode). code) (slice_get p.codes.items place.member)) (slice_get parts place.class)

abbrev pub instr_kept : List ClassParts → Place → ℕ → Option Instr
instr_kept parts place number = option_and_then (λ (code : MethodCode). slice_get code.code.code number) (code_kept parts place)

abbrev pub range_kept : List ClassParts → Place → ℕ → Option Protected
range_kept parts place range = option_and_then (λ (code : MethodCode). slice_get code.code.ranges range) (code_kept parts place)

-- the entry of a class's table; past the end of either, none
abbrev pub entry_kept : {A : Type 0} → List (Vec A) → ℕ → ℕ → Option A
entry_kept {A} tables class index = option_and_then (λ (table : Vec A). slice_get table.items index) (slice_get tables class)

-- the class at an index, of the table of a class
abbrev pub class_at_index : List (Vec (Option ℕ)) → ℕ → ℕ → Option ℕ
class_at_index tables class index = option_and_then (λ (number : Option ℕ). number) (entry_kept tables class index)

abbrev pub named_kept : List (Vec (Option ℕ)) → ℕ → Option ℕ → Option ℕ
named_kept tables class index = option_and_then (class_at_index tables class) index

-- the class that a row catches; none of index 0
abbrev pub caught_kept : List (Vec (Option ℕ)) → ℕ → ℕ → Option ℕ
caught_kept tables class index = if nat_eq index 0 then None else class_at_index tables class index

abbrev pub operand_with : Typed → List ClassParts → List (Vec Operand) → List (Vec (Option ℕ)) → ℕ → Instr → Option Operand
operand_with types parts kept made class instr =
    option_and_then (λ (p : ClassParts). option_and_then (λ (table : Vec Operand).
    option_map (λ (arrays : Vec (Option ℕ)). kept_operand types p.pool table.items arrays.items instr) (slice_get made class)) (slice_get kept class)) (slice_get parts class)
