-- A frame that is entered.
use Rattle.std.specs.Prelude.{◌≡◌, ◌<◌, ◌≤◌, ℕ, Bool, true, false, List, [], ◌∷◌, length, reverse, take, drop}
use Rattle.dj_names.specs.declared.run.Value.{Value}
use Rattle.dj_model.specs.trusted.Numbers.{is_long}
use Rattle.dj_model.specs.trusted.Values.{in_slots}
use Rattle.dj_model.specs.trusted.Initialisation.{padded}
use Rattle.dj_stack.specs.Frames.{StackFrame, most_frames, top_operands}
use Rattle.dj_invocation.specs.declared.entering.Room.{Room}
use Rattle.dj_invocation.specs.Operands.{with_operands}

-- at instruction 0, without operands; the first local variables are arguments, a long in two of them, and the others have no value
abbrev pub entered : ℕ → ℕ → ℕ → List Value → StackFrame
entered method locals room arguments =
    record { method = method; number = 0; locals = padded locals (in_slots is_long arguments); operands = []; room = room }

-- where one more frame is allowed, the upper operands, which are taken, are the arguments of a new one
abbrev pub EntersIfAllowed : ℕ → Room → List StackFrame → List StackFrame → Bool → Type 0
EntersIfAllowed count room old new true = (length old < most_frames)
    × (new ≡ entered room.method room.max_locals room.max_stack (reverse (take count (top_operands old))) ∷ with_operands (drop count (top_operands old)) old)
EntersIfAllowed count room old new false = (most_frames ≤ length old) × (new ≡ with_operands (drop count (top_operands old)) old)
