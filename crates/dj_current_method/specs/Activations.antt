-- What the frames of a machine are in the model: a method's number stands for its names.
use Rattle.std.specs.Prelude.{◌≡◌, ℕ, ⊤, false, List, [], ◌∷◌, map, Option, Some, None, slice_get}
use Rattle.dj_model.specs.trusted.Types.{Declared, no_parameters}
use Rattle.dj_model.specs.trusted.Program.{Program, Code, Runs}
use Rattle.dj_model.specs.trusted.Linking.{FoundMethod, declared_of}
use Rattle.dj_model.specs.trusted.State.{Frame}
use Rattle.dj_stack.specs.Frames.{StackFrame}
use Rattle.dj_numbering.specs.Members.{all_methods}
use Rattle.dj_image.specs.Imaged.{Imaged, program_of}

-- ---- methods

-- where there is no method, a made-up one, of which no program has code
abbrev pub declared_or_none : Option FoundMethod → Declared
declared_or_none None = record { class = []; name = []; desc = no_parameters }
declared_or_none (Some found) = declared_of found

-- the method of a number, by its names
unfoldable pub declared_at : Program → ℕ → Declared
declared_at program method = declared_or_none (slice_get (all_methods program) method)

-- ---- frames

-- a machine doesn't keep whether an instruction's charges were added
abbrev pub frame_seen : Program → StackFrame → Frame Declared
frame_seen program f = record { method = declared_at program f.method; number = f.number; locals = f.locals; operands = f.operands; paid = false }

-- the top first
abbrev pub frames_seen : Program → List StackFrame → List (Frame Declared)
frames_seen program frames = map (frame_seen program) frames

-- ---- frames over an image

-- the frame is of a method with code, and has room for as many operands as the code needs
pub record IsActivation (imaged : Imaged) (f : StackFrame) : Type 0 where
  pub found : FoundMethod
  pub there : slice_get (all_methods (program_of imaged)) f.method ≡ Some found
  pub code : Code
  pub runs : found.method.body ≡ Runs code
  pub room : f.room ≡ code.max_stack

abbrev pub AreActivations : Imaged → List StackFrame → Type 0
AreActivations imaged [] = ⊤
AreActivations imaged (f ∷ frames) = IsActivation imaged f × AreActivations imaged frames
