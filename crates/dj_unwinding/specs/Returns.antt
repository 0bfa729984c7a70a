-- How a method returns to its caller, over frames whose methods are numbers.
use Rattle.std.specs.Prelude.{◌≡◌, ⊤, false, List, [], ◌∷◌, Option}
use Rattle.dj_names.specs.declared.run.Value.{Value}
use Rattle.dj_model.specs.trusted.Program.{Program, is_initialiser}
use Rattle.dj_model.specs.trusted.State.{State}
use Rattle.dj_model.specs.trusted.Step.{StepAnswer, Went, Ended, IllFormed, returned, result_outcome}
use Rattle.dj_stack.specs.Frames.{StackFrame}
use Rattle.dj_current_method.specs.Activations.{declared_at, frame_seen, frames_seen}
use Rattle.dj_unwinding.specs.declared.returning.Returned.{Returned}
use Rattle.dj_unwinding.specs.declared.returning.Returned.TheVariants as returns
use Rattle.dj_unwinding.specs.Resuming.{HasRoom}

-- a caller that waits for a result has room for it; below an initialiser none is pushed
abbrev pub HasRoomBelow : Program → List StackFrame → Option Value → Type 0
HasRoomBelow program [] value = ⊤
HasRoomBelow program (f ∷ []) value = ⊤
HasRoomBelow program (f ∷ (caller ∷ below)) value = is_initialiser (declared_at program f.method) ≡ false → HasRoom (caller ∷ below) value

-- what the model answers where the top frame's method returns
abbrev pub top_returned : Program → State → List StackFrame → Option Value → StepAnswer
top_returned program s [] value = IllFormed
top_returned program s (f ∷ below) value = returned s (frame_seen program f) value (frames_seen program below)

-- the run goes on with these frames, or ends with what is returned
abbrev pub returned_reported : Program → State → List StackFrame → Option Value → Returned → StepAnswer
returned_reported program s frames value returns.Back = Went (record s { frames = frames_seen program frames })
returned_reported program s frames value returns.Last = Ended (result_outcome s.heap value) s

-- in each state
abbrev pub IsReturned : Program → List StackFrame → List StackFrame → Option Value → Returned → Type 0
IsReturned program old new value returned = (s : State) → top_returned program s old value ≡ returned_reported program s new value returned
