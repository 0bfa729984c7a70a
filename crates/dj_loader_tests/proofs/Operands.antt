-- What operands and constants name is there.
use Rattle.std.proofs.Common.{◌≡◌, ℕ, ◌<◌, Bool, true, false, List, length, refl, sym, subst, Option, Some, None}
use Rattle.std.specs.Prelude.{if◌then◌else◌}
use Rattle.dj_ops.specs.declared.instruction.Instr.{Instr}
use Rattle.dj_model.specs.trusted.Program as programs
use Rattle.dj_model.specs.trusted.Instructions.{Named, Nothing, AnInt, ALong, AText, AClass, AField, AMethod, AnInterfaceMethod, Another, Instruction, NewArray}
use Rattle.dj_model.specs.trusted.Opcodes.{instruction_of}
use Rattle.dj_model.specs.trusted.Linking.{resolve_method, resolve_field}
use Rattle.dj_early_rules.specs.trusted.Instructions.{index_of}
use Rattle.dj_program.specs.trusted.Naming.{named_if}
use Rattle.dj_numbering.specs.Typed.{type_number}
use Rattle.dj_numbering.specs.Members.{all_methods, all_fields}
use Rattle.dj_image.specs.declared.operand.Operand.{Operand}
use Rattle.dj_image.specs.declared.operand.Operand.TheVariants as operands
use Rattle.dj_image.specs.Imaged.{Imaged, program_of, typed_of}
use Rattle.dj_image.specs.Operands.{class_operand, text_operand, method_operand, field_operand, units_number, resolved_method_number, resolved_field_number, named_operand, takes_named, made_operand, operand_by, operand_of, value_operand}
use Rattle.dj_image.specs.Codes.{IsOperandAt, IsConstantAt}
use Rattle.dj_loader_tests.specs.Members.{HasOperand}
use Rattle.dj_loader_tests.proofs.Within.{units_within, found_method_within, found_field_within}

module _ (imaged : Imaged) where
  class_in : (o : Option ℕ) → HasOperand imaged (class_operand o)
  class_in None = tt
  class_in (Some n) = tt

  text_in : (o : Option ℕ) → ((n : ℕ) → o ≡ Some n → n < length imaged.texts) → HasOperand imaged (text_operand o)
  text_in None within = tt
  text_in (Some n) within = within n refl

  method_in : (o : Option ℕ) → ((n : ℕ) → o ≡ Some n → n < length (all_methods (program_of imaged))) → HasOperand imaged (method_operand o)
  method_in None within = tt
  method_in (Some n) within = within n refl

  field_in : (o : Option ℕ) → ((n : ℕ) → o ≡ Some n → n < length (all_fields (program_of imaged))) → HasOperand imaged (field_operand o)
  field_in None within = tt
  field_in (Some n) within = within n refl

  named_in : (named : Named) → HasOperand imaged (named_operand imaged named)
  named_in Nothing = tt
  named_in (AnInt z) = tt
  named_in (ALong z) = tt
  named_in (AText units) = text_in (units_number imaged.texts units) (units_within imaged.texts units)
  named_in (AClass ty) = class_in (type_number (typed_of imaged) ty)
  named_in (AField m) = field_in (resolved_field_number imaged m) (found_field_within (program_of imaged) (resolve_field (program_of imaged) imaged.prefix m))
  named_in (AMethod m) = method_in (resolved_method_number imaged m) (found_method_within (program_of imaged) (resolve_method (program_of imaged) imaged.prefix m))
  named_in (AnInterfaceMethod m) = method_in (resolved_method_number imaged m) (found_method_within (program_of imaged) (resolve_method (program_of imaged) imaged.prefix m))
  named_in Another = tt

  -- the one or the other
  either_in : (b : Bool) (operand : Operand) → HasOperand imaged operand → HasOperand imaged (if b then operand else operands.Unresolved)
  either_in true operand has = has
  either_in false operand has = tt

  taken_in : (instr : Instr) (named : Named) → HasOperand imaged (if takes_named instr named then named_operand imaged named else operands.Unresolved)
  taken_in instr named = either_in (takes_named instr named) (named_operand imaged named) (named_in named)

  by_in : (instr : Instr) (named : Named) → HasOperand imaged (operand_by imaged instr named)
  by_in instr Nothing = tt
  by_in instr (AnInt z) = taken_in instr (AnInt z)
  by_in instr (ALong z) = taken_in instr (ALong z)
  by_in instr (AText units) = taken_in instr (AText units)
  by_in instr (AClass ty) = taken_in instr (AClass ty)
  by_in instr (AField m) = taken_in instr (AField m)
  by_in instr (AMethod m) = taken_in instr (AMethod m)
  by_in instr (AnInterfaceMethod m) = taken_in instr (AnInterfaceMethod m)
  by_in instr Another = taken_in instr Another

  made_in : (i : Instruction) (other : Operand) → HasOperand imaged other → HasOperand imaged (made_operand imaged i other)
  made_in (NewArray class element) other has = class_in (type_number (typed_of imaged) class)
  made_in _ other has = has

  of_in : (instr : Instr) (named : Named) → HasOperand imaged (operand_of imaged instr named)
  unfolding operand_of
  of_in instr named = made_in (instruction_of instr named) (operand_by imaged instr named) (by_in instr named)

  value_in : (value : Option programs.Constant) → HasOperand imaged (value_operand imaged value)
  value_in None = tt
  value_in (Some (programs.Int z)) = tt
  value_in (Some (programs.Long z)) = tt
  value_in (Some (programs.Text units)) = text_in (units_number imaged.texts units) (units_within imaged.texts units)
  value_in (Some programs.Unfit) = tt

pub operand_in : (imaged : Imaged) (method number : ℕ) (operand : Operand) → IsOperandAt imaged method number operand → HasOperand imaged operand
operand_in imaged method number operand at = subst (HasOperand imaged) (sym at.is) (of_in imaged at.instr (named_if at.code.pool (index_of at.instr)))

pub constant_in : (imaged : Imaged) (field : ℕ) (operand : Operand) → IsConstantAt imaged field operand → HasOperand imaged operand
constant_in imaged field operand at = subst (HasOperand imaged) (sym at.is) (value_in imaged at.found.field.constant)
