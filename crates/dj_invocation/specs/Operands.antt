-- The upper operands of a frame.
use Rattle.std.specs.Prelude.{ℕ, ◌&&◌, Bool, true, false, List, [], ◌∷◌, Option, Some, None}
use Rattle.dj_names.specs.declared.descriptor.Kind.{Kind}
use Rattle.dj_names.specs.declared.run.Value.{Value}
use Rattle.dj_names.specs.declared.run.Value.TheVariants as values
use Rattle.dj_model.specs.trusted.Kinds.{Signature}
use Rattle.dj_model.specs.trusted.Numbers.{is_of_kind}
use Rattle.dj_stack.specs.Frames.{StackFrame}

-- the upper operands are of these kinds, the last one on top; kinds and operands come from the top down
abbrev pub fit : List Kind → List Value → Bool
fit [] operands = true
fit (kind ∷ kinds) [] = false
fit (kind ∷ kinds) (v ∷ operands) = is_of_kind kind v && fit kinds operands

-- the top frame has these operands
abbrev pub with_operands : List Value → List StackFrame → List StackFrame
with_operands operands [] = []
with_operands operands (frame ∷ below) = record frame { operands = operands } ∷ below

-- a reference on top
abbrev pub receiver_in : List Value → Option ℕ
receiver_in (values.Ref r ∷ operands) = Some r
receiver_in operands = None

-- the kinds of the parameters of a signature
abbrev pub parameters_in : Option Signature → Option (List Kind)
parameters_in None = None
parameters_in (Some signature) = Some signature.parameters
