-- Laws of stack maps.
use Rattle.std.specs.Prelude.{◌≡◌, ℕ, ◌^◌, ◌<◌, List, All, Ok, length, map, slice_index}
use Rattle.std.specs.List.Sorted.{IsStrictlyIncreasing}
use Rattle.dj_ops.specs.declared.frames.Frame.{Frame}
use Rattle.dj_frames.specs.declared.read.FrameError.{FrameError}
use Rattle.dj_frames.specs.trusted.StackMaps.{IsStackMap}
use Rattle.dj_frames.specs.StackMaps.{IsFrameBelow, AreWellFormed}
use Rattle.dj_frames.specs.Refusals.{IsFault}
use Rattle.dj_frames.specs.Reading.{frames_read}
use Rattle.dj_frames.specs.trusted.Written.{stack_map_bytes}
use Rattle.dj_frames.specs.Moves.{moved_frame}

-- a body has one stack map at most
abbrev pub OneStackMap : Type 0
OneStackMap = (body starts : List ℕ) (a b : List Frame) → IsStrictlyIncreasing starts → IsStackMap body starts a → IsStackMap body starts b → a ≡ b

-- a body with a fault has none
abbrev pub NoStackMapWhereFault : Type 0
NoStackMapWhereFault = (body starts : List ℕ) (e : FrameError) (frames : List Frame) → IsStrictlyIncreasing starts → IsFault body starts e → IsStackMap body starts frames → ⊥

-- a body of bytes without a fault has one
abbrev pub StackMapWhereNoFault : Type 0
StackMapWhereNoFault = (body starts : List ℕ) → All (λ byte. byte < 2 ^ 8) body → IsStrictlyIncreasing starts → ((e : FrameError) → IsFault body starts e → ⊥) → (frames : List Frame) × IsStackMap body starts frames

-- there is one first fault at most
abbrev pub OneFault : Type 0
OneFault = (body starts : List ℕ) (a b : FrameError) → IsStrictlyIncreasing starts → IsFault body starts a → IsFault body starts b → a ≡ b

-- well-formed frames are those of the body that is written for them
abbrev pub WrittenIsStackMap : Type 0
WrittenIsStackMap = (starts : List ℕ) (frames : List Frame) → AreWellFormed starts frames → IsStackMap (stack_map_bytes starts frames) starts frames

-- and reading that body gives them again
abbrev pub WrittenIsRead : Type 0
WrittenIsRead = (starts : List ℕ) (frames : List Frame) → AreWellFormed starts frames → frames_read (stack_map_bytes starts frames) starts ≡ Ok frames

-- the frames of a stack map are well formed, where no instruction starts past 65,535
abbrev pub StackMapIsWellFormed : Type 0
StackMapIsWellFormed = (body starts : List ℕ) (frames : List Frame) → IsStrictlyIncreasing starts → All (λ address. address < 2 ^ 16) starts → IsStackMap body starts frames → AreWellFormed starts frames

-- and each number in them is one of an instruction
abbrev pub StackMapIsBelow : Type 0
StackMapIsBelow = (body starts : List ℕ) (frames : List Frame) → IsStackMap body starts frames → All (IsFrameBelow (length starts)) frames

-- each number in the list is at its own place
abbrev pub IsUnchanged : List ℕ → Type 0
IsUnchanged numbers = (number : ℕ) → number < length numbers → slice_index numbers number ≡ number

-- where each instruction keeps its number the frames stay as they are: their forms, and each of their types
abbrev pub MovedNowhere : Type 0
MovedNowhere = (start own : List ℕ) (frames : List Frame) → IsUnchanged start → IsUnchanged own → All (IsFrameBelow (length start)) frames → All (IsFrameBelow (length own)) frames → map (moved_frame start own) frames ≡ frames
