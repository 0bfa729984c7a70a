-- The frames as the definitions see them.
use Rattle.std.specs.Prelude.{List, ◌∷◌, [], reverse, map, Option, Some, None}
use Rattle.dj_stack.specs.Frames.{StackFrame}
use Rattle.dj_stack.specs.Held.{locals_of, values_of, room_of}
use Rattle.dj_stack.specs.declared.frame.Frame.{Frame}

abbrev pub frame_view : Frame → StackFrame
frame_view frame = record { method = frame.method; number = frame.number; locals = locals_of frame.locals; operands = reverse (values_of frame.operands); room = room_of frame.operands }

abbrev pub frames_view : Option Frame → List Frame → List StackFrame
frames_view None below = []
frames_view (Some top) below = frame_view top ∷ reverse (map frame_view below)
