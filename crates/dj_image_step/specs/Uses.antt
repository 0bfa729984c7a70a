-- Used by the code alone: an instruction by its operand.
use Rattle.std.specs.Prelude.{◌≡◌, Bool, true, false}
use Rattle.dj_ops.specs.declared.instruction.Instr.{Instr}
use Rattle.dj_model.specs.trusted.Instructions.{Named}
use Rattle.dj_model.specs.trusted.Opcodes.{instruction_of}
use Rattle.dj_model.specs.Sound.{is_linked}
use Rattle.dj_image.specs.declared.operand.Operand.{Operand}
use Rattle.dj_image.specs.declared.operand.Operand.TheVariants as operands
use Rattle.dj_image.specs.Imaged.{Imaged, program_of}
use Rattle.dj_image.specs.Operands.{operand_of}

-- the operand is that of the instruction, which is linked
pub record IsOperandNamed (imaged : Imaged) (instr : Instr) (operand : Operand) (named : Named) : Type 0 where
  pub is : operand ≡ operand_of imaged instr named
  pub linked : is_linked (program_of imaged) imaged.prefix (instruction_of instr named) ≡ true

-- there is one, and it is that of no method
abbrev pub is_given : Operand → Bool
is_given (operands.Method m) = false
is_given operands.Unresolved = false
is_given operand = true
