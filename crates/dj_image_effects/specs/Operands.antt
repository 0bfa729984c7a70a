-- What the operand of an instruction says of it, by numbers.
use Rattle.std.specs.Prelude.{◌≡◌, ℕ, Bool, true, false, Some}
use Rattle.dj_names.specs.declared.run.Element.{Element}
use Rattle.dj_names.specs.declared.descriptor.Ty.{Ty}
use Rattle.dj_ops.specs.declared.instruction.Instr.{Instr}
use Rattle.dj_model.specs.trusted.Instructions.{Instruction, Named, AClass, NewArray}
use Rattle.dj_model.specs.trusted.Opcodes.{instruction_of}
use Rattle.dj_numbering.specs.Typed.{type_number}
use Rattle.dj_image.specs.Imaged.{Imaged, typed_of}
use Rattle.dj_image.specs.Operands.{takes_named}
pub use Rattle.dj_current_method.specs.Instructions.{StandsAt, IsInstrAt}

abbrev pub makes_array : Instruction → Bool
makes_array (NewArray class element) = true
makes_array i = false

-- where the operand is the class of a number: the instruction makes arrays of it, or names it
pub data UsesClass (imaged : Imaged) (instr : Instr) (named : Named) (k : ℕ) : Type 0 where
  Makes : (class : Ty) (element : Element) → instruction_of instr named ≡ NewArray class element → type_number (typed_of imaged) class ≡ Some k → UsesClass imaged instr named k
  Names : (class : Ty) → named ≡ AClass class → takes_named instr (AClass class) ≡ true → makes_array (instruction_of instr named) ≡ false → type_number (typed_of imaged) class ≡ Some k → UsesClass imaged instr named k
