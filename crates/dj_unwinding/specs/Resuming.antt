-- What is left of a frame whose call is done.
use Rattle.std.specs.Prelude.{◌≡◌, ◌<◌, ⊤, ◌+◌, length, List, ◌++◌, Option, Some, None}
use Rattle.dj_names.specs.declared.run.Value.{Value}
use Rattle.dj_model.specs.trusted.Linking.{option_list}
use Rattle.dj_stack.specs.Frames.{StackFrame, SameFrames, top_number, top_locals, top_operands, top_room}

-- the top frame has room for the value, where there is one
abbrev pub HasRoom : List StackFrame → Option Value → Type 0
HasRoom frames None = ⊤
HasRoom frames (Some v) = length (top_operands frames) < top_room frames

-- the top frame is at the next instruction, with the value pushed where there is one
pub record Resumes (old new : List StackFrame) (value : Option Value) : Type 0 where
  pub frames : SameFrames old new
  pub number : top_number new ≡ top_number old + 1
  pub locals : top_locals new ≡ top_locals old
  pub operands : top_operands new ≡ option_list value ++ top_operands old
