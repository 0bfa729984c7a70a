-- How an exception leaves frames whose methods are numbers.
use Rattle.std.specs.Prelude.{◌≡◌, ◌<◌, ⊤, ℕ, Bool, ◌&&◌, List, [], length, Option, Some, None, nat_le, nat_lt, unwrap_or}
use Rattle.dj_names.specs.declared.descriptor.Ty.{Ty}
use Rattle.dj_names.specs.declared.run.Outcome.TheVariants as outcomes
use Rattle.dj_names.specs.trusted.Types.{Name}
use Rattle.dj_model.specs.trusted.Types.{Prefix}
use Rattle.dj_model.specs.trusted.Program.{Program, Code, Range, code_of}
use Rattle.dj_model.specs.trusted.Linking.{member_class}
use Rattle.dj_model.specs.trusted.State.{State}
use Rattle.dj_model.specs.trusted.Step.{StepAnswer, Went, catches, ends_with, message_of, unwound}
use Rattle.dj_stack.specs.Frames.{StackFrame}
use Rattle.dj_class_table.specs.Tables.{name_at}
use Rattle.dj_numbering.specs.Typed.{Typed, types_of, type_at}
use Rattle.dj_image.specs.Imaged.{Imaged, program_of}
use Rattle.dj_current_method.specs.Activations.{declared_at, frames_seen}
use Rattle.dj_unwinding.specs.declared.unwinding.Unwound.{Unwound}
use Rattle.dj_unwinding.specs.declared.unwinding.Unwound.TheVariants as unwinds

-- ---- rows

abbrev pub ranges_of : Option Code → List Range
ranges_of None = []
ranges_of (Some code) = code.ranges

-- the rows of the method of a number
abbrev pub ranges_at : Imaged → ℕ → List Range
ranges_at imaged method = ranges_of (code_of (program_of imaged) (declared_at (program_of imaged) method))

-- the row covers the instruction and catches the class
abbrev pub is_handling : Program → Prefix → Ty → ℕ → Range → Bool
is_handling program prefix class number range = nat_le range.start number && nat_lt number range.end && catches program prefix class range.catches

-- ---- classes

-- the number is that of a class, and of no array
pub record IsClassNumber (typed : Typed) (class : ℕ) : Type 0 where
  pub within : class < length (types_of typed)
  pub plain : (type_at typed class).dims ≡ 0

-- the name of the class of a number
abbrev pub class_name_at : Program → ℕ → Name
class_name_at program class = unwrap_or (name_at program class) []

-- ---- where the exception went

-- the run goes on at a handler with these frames, or it ends as the exception left an initialiser or the last frame
abbrev pub unwound_reported : Imaged → State → Ty → ℕ → List StackFrame → Unwound → StepAnswer
unwound_reported imaged s class exception frames unwinds.Caught = Went (record s { frames = frames_seen (program_of imaged) frames })
unwound_reported imaged s class exception frames (unwinds.Init left) =
    ends_with imaged.prefix s class (outcomes.Init (class_name_at (program_of imaged) left) (member_class imaged.prefix class) (message_of s.heap exception))
unwound_reported imaged s class exception frames unwinds.Threw = ends_with imaged.prefix s class (outcomes.Threw (member_class imaged.prefix class) (message_of s.heap exception))

-- what the model answers where the exception leaves these frames
abbrev pub frames_unwound : Imaged → State → Ty → ℕ → List StackFrame → StepAnswer
frames_unwound imaged s class exception frames = unwound (program_of imaged) imaged.prefix s class exception (frames_seen (program_of imaged) frames)

-- in each state
abbrev pub IsUnwound : Imaged → Ty → ℕ → List StackFrame → List StackFrame → Unwound → Type 0
IsUnwound imaged class exception old new how = (s : State) → frames_unwound imaged s class exception old ≡ unwound_reported imaged s class exception new how

-- the class whose initialiser was left has a number
abbrev pub IsKnown : Imaged → Unwound → Type 0
IsKnown imaged (unwinds.Init left) = left < length (program_of imaged)
IsKnown imaged how = ⊤

-- the exception goes on through the frames that are left
abbrev pub GoesOn : Imaged → Ty → ℕ → List StackFrame → List StackFrame → Type 0
GoesOn imaged class exception old new = (s : State) → frames_unwound imaged s class exception old ≡ frames_unwound imaged s class exception new

-- it left the top frame and goes on, or this is where it went
abbrev pub IsPassed : Imaged → Ty → ℕ → List StackFrame → List StackFrame → Option Unwound → Type 0
IsPassed imaged class exception old new None = GoesOn imaged class exception old new
IsPassed imaged class exception old new (Some how) = IsUnwound imaged class exception old new how
