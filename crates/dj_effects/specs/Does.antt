-- What an instruction on values does to the frames.
use Rattle.std.specs.Prelude.{◌≡◌, ◌≤◌, ⊤, ℕ, List, length, Option, Some, None}
use Rattle.dj_names.specs.declared.run.Value.{Value}
use Rattle.dj_model.specs.trusted.Instructions.{Instruction}
use Rattle.dj_model.specs.trusted.State as model
use Rattle.dj_model.specs.trusted.Values.{Values, left, on_values}
use Rattle.dj_stack.specs.Frames.{StackFrame, SameFrames, top_locals, top_number, top_operands, top_room}
use Rattle.dj_effects.specs.declared.way.Way.{Way}
use Rattle.dj_effects.specs.declared.way.Way.TheVariants as ways

abbrev pub way_view : Way → model.Way
way_view ways.Next = model.Next
way_view (ways.To number) = model.To number
way_view (ways.Raise raised) = model.Raise raised
way_view (ways.Back v) = model.Back v

-- the operands after an effect: where an exception is raised, those before it
abbrev pub reported_operands : List StackFrame → List StackFrame → Way → List Value
reported_operands old new (ways.Raise raised) = top_operands old
reported_operands old new way = top_operands new

-- the effect that the new frames and the answer mean
abbrev pub reported : List StackFrame → List StackFrame → Option Way → Option Values
reported old new None = None
reported old new (Some way) = Some (left (top_locals new) (reported_operands old new way) (way_view way))

-- the top frame's locals and operands are as the instruction leaves them, and the answer is how the run goes on; none where the instruction has no effect
pub record Does (i : Instruction) (old new : List StackFrame) (way : Option Way) : Type 0 where
  pub effect : on_values i (top_locals old) (top_operands old) ≡ reported old new way
  pub frames : SameFrames old new
  pub number : top_number new ≡ top_number old

-- ---- what is left has room

abbrev pub FitsIn : ℕ → Option Values → Type 0
FitsIn room None = ⊤
FitsIn room (Some v) = length v.operands ≤ room

abbrev pub Fits : Instruction → List StackFrame → Type 0
Fits i frames = FitsIn (top_room frames) (on_values i (top_locals frames) (top_operands frames))
