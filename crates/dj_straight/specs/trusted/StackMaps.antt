-- Stack maps (JVMS 4.7.4); instructions are numbered from 0.
use Rattle.std.specs.Prelude.{ℕ, List}

pub data VerificationType : Type 0 where
  Top : VerificationType
  Integer : VerificationType
  Float : VerificationType
  Double : VerificationType
  Long : VerificationType
  Null : VerificationType
  UninitializedThis : VerificationType
  -- an object of the class of this name
  Object : List ℕ → VerificationType
  -- what the `new` at this instruction made
  Uninitialized : ℕ → VerificationType

-- the form of a frame, which may depend on the frame before it
pub data FrameForm : Type 0 where
  -- the same local variables, and no operands
  Same : FrameForm
  -- the same local variables, and one operand
  Stack1 : VerificationType → FrameForm
  -- without the last n local variables, and no operands
  Chop : ℕ → FrameForm
  -- with these local variables after the others, and no operands
  Append : List VerificationType → FrameForm
  -- all local variables, and all operands, the bottom first
  Full : List VerificationType → List VerificationType → FrameForm

-- the frame of the instruction of this number
pub record StackMapFrame : Type 0 where
  pub at : ℕ
  pub form : FrameForm
