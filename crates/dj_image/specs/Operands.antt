-- What the operands of instructions, the constants of fields and the types of handlers are by numbers.
use Rattle.std.specs.Prelude.{ℕ, suc, Bool, true, false, List, [], ◌∷◌, Option, Some, None, nat_eq, nat_le, if◌then◌else◌}
use Rattle.std.specs.Option.{option_map}
use Rattle.std.specs.Cmp.Lexicographic.{pointwise}
use Rattle.dj_names.specs.trusted.Types.{array_type}
use Rattle.dj_ops.specs.declared.instruction.Instr.{Instr}
use Rattle.dj_ops.specs.declared.instruction.Instr.TheVariants as instrs
use Rattle.dj_model.specs.trusted.Types.{Member}
use Rattle.dj_model.specs.trusted.Instructions.{Named, Nothing, AnInt, ALong, AText, AClass, AField, AMethod, AnInterfaceMethod, Another, Instruction, NewArray}
use Rattle.dj_model.specs.trusted.Opcodes.{instruction_of}
use Rattle.dj_model.specs.trusted.Program as programs
use Rattle.dj_model.specs.trusted.Linking.{resolve_method, resolve_field}
use Rattle.dj_numbering.specs.Typed.{type_number}
use Rattle.dj_numbering.specs.Members.{found_method_number, found_field_number}
use Rattle.dj_image.specs.declared.operand.Operand.{Operand}
use Rattle.dj_image.specs.declared.operand.Operand.TheVariants as operands
use Rattle.dj_image.specs.Imaged.{Imaged, program_of, typed_of}

-- ---- texts

-- the first place of a text of these units
abbrev pub units_number : List (List ℕ) → List ℕ → Option ℕ
units_number [] units = None
units_number (x ∷ texts) units = if pointwise nat_eq x units then Some 0 else option_map suc (units_number texts units)

-- ---- operands

abbrev pub class_operand : Option ℕ → Operand
class_operand None = operands.Unresolved
class_operand (Some n) = operands.Class n

abbrev pub text_operand : Option ℕ → Operand
text_operand None = operands.Unresolved
text_operand (Some n) = operands.Text n

abbrev pub method_operand : Option ℕ → Operand
method_operand None = operands.Unresolved
method_operand (Some n) = operands.Method (record { number = n })

abbrev pub field_operand : Option ℕ → Operand
field_operand None = operands.Unresolved
field_operand (Some n) = operands.Field (record { number = n })

abbrev pub resolved_method_number : Imaged → Member → Option ℕ
resolved_method_number imaged m = found_method_number (program_of imaged) (resolve_method (program_of imaged) imaged.prefix m)

abbrev pub resolved_field_number : Imaged → Member → Option ℕ
resolved_field_number imaged m = found_field_number (program_of imaged) (resolve_field (program_of imaged) imaged.prefix m)

-- what an index names, by numbers
abbrev pub named_operand : Imaged → Named → Operand
named_operand imaged Nothing = operands.Nothing
named_operand imaged (AnInt z) = operands.Int z
named_operand imaged (ALong z) = operands.Long z
named_operand imaged (AText units) = text_operand (units_number imaged.texts units)
named_operand imaged (AClass ty) = class_operand (type_number (typed_of imaged) ty)
named_operand imaged (AField m) = field_operand (resolved_field_number imaged m)
named_operand imaged (AMethod m) = method_operand (resolved_method_number imaged m)
named_operand imaged (AnInterfaceMethod m) = method_operand (resolved_method_number imaged m)
named_operand imaged Another = operands.Unresolved

-- the instruction takes what its index names
abbrev pub takes_named : Instr → Named → Bool
takes_named (instrs.Literal op index) (AnInt z) = nat_le op 19
takes_named (instrs.Literal op index) (AText units) = nat_le op 19
takes_named (instrs.Literal op index) (AClass ty) = nat_le op 19
takes_named (instrs.Literal op index) (ALong z) = nat_eq op 20
takes_named (instrs.Member op index) (AField m) = nat_le op 181
takes_named (instrs.Member op index) (AMethod m) = nat_le 182 op
takes_named (instrs.Member op index) (AnInterfaceMethod m) = nat_le 183 op
takes_named (instrs.Interface index count) (AnInterfaceMethod m) = true
takes_named (instrs.Class op index) (AClass ty) = true
takes_named (instrs.Multi index dims) (AClass ty) = true
takes_named instr named = false

-- for an instruction that makes an array, the class of the array
abbrev pub made_operand : Imaged → Instruction → Operand → Operand
made_operand imaged (NewArray class element) other = class_operand (type_number (typed_of imaged) class)
made_operand imaged i other = other

-- none where the instruction has no index; unresolved where the constant isn't of the tag that it takes, or isn't there
abbrev pub operand_by : Imaged → Instr → Named → Operand
operand_by imaged instr Nothing = operands.Nothing
operand_by imaged instr named = if takes_named instr named then named_operand imaged named else operands.Unresolved

unfoldable pub operand_of : Imaged → Instr → Named → Operand
operand_of imaged instr named = made_operand imaged (instruction_of instr named) (operand_by imaged instr named)

-- the number of the class that an operand names, whatever its tag is
abbrev pub named_class : Imaged → Named → Option ℕ
named_class imaged (AClass ty) = type_number (typed_of imaged) ty
named_class imaged (AField m) = type_number (typed_of imaged) m.class
named_class imaged (AMethod m) = type_number (typed_of imaged) m.class
named_class imaged (AnInterfaceMethod m) = type_number (typed_of imaged) m.class
named_class imaged named = None

-- the number of the array that anewarray makes by a constant: its elements are of the class that the constant names
abbrev pub made_class : Imaged → Named → Option ℕ
made_class imaged (AClass ty) = type_number (typed_of imaged) (array_type ty)
made_class imaged named = None

-- the constant of a field
abbrev pub value_operand : Imaged → Option programs.Constant → Operand
value_operand imaged None = operands.Nothing
value_operand imaged (Some (programs.Int z)) = operands.Int z
value_operand imaged (Some (programs.Long z)) = operands.Long z
value_operand imaged (Some (programs.Text units)) = text_operand (units_number imaged.texts units)
value_operand imaged (Some programs.Unfit) = operands.Unresolved
