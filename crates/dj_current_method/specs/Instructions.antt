-- The instruction of a number in a method of a number, in the image and in the model.
use Rattle.std.specs.Prelude.{◌≡◌, ℕ, Option, Some, slice_get}
use Rattle.dj_ops.specs.declared.instruction.Instr.{Instr}
use Rattle.dj_model.specs.trusted.Instructions.{Instruction, Named}
use Rattle.dj_model.specs.trusted.Opcodes.{instruction_of}
use Rattle.dj_model.specs.trusted.Program.{code_of}
use Rattle.dj_model.specs.trusted.State.{instruction_in}
use Rattle.dj_early_rules.specs.trusted.Instructions.{index_of}
use Rattle.dj_program.specs.trusted.Naming.{named_if}
use Rattle.dj_image.specs.Imaged.{Imaged, program_of}
use Rattle.dj_image.specs.Codes.{PooledCode, code_at}
use Rattle.dj_current_method.specs.Activations.{declared_at}

-- the instruction of a number in the method of a number
abbrev pub instruction_of_number : Imaged → ℕ → ℕ → Option Instruction
instruction_of_number imaged method number = instruction_in (code_of (program_of imaged) (declared_at (program_of imaged) method)) number

-- there is one
pub record HasInstruction (imaged : Imaged) (method number : ℕ) : Type 0 where
  pub instruction : Instruction
  pub at : instruction_of_number imaged method number ≡ Some instruction

-- the image's code has the instruction at that place, and its index names this
pub record StandsAt (imaged : Imaged) (method number : ℕ) (instr : Instr) (named : Named) : Type 0 where
  pub code : PooledCode
  pub own : code_at imaged method ≡ Some code
  pub stands : slice_get code.parts.labelled.code number ≡ Some instr
  pub names : named ≡ named_if code.pool (index_of instr)

-- the instruction is that of the model
pub record IsInstrAt (imaged : Imaged) (method number : ℕ) (instr : Instr) (named : Named) : Type 0 where
  pub stands : StandsAt imaged method number instr named
  pub is : instruction_of_number imaged method number ≡ Some (instruction_of instr named)
