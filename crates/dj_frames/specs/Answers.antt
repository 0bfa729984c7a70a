-- What reading a stack map answers.
use Rattle.std.specs.Prelude.{⊤, List, ℕ, Result, Ok, Err}
use Rattle.dj_ops.specs.declared.frames.Frame.{Frame}
use Rattle.dj_frames.specs.declared.read.FrameError.{FrameError}
use Rattle.dj_frames.specs.declared.read.FrameError.TheVariants as errors
use Rattle.dj_frames.specs.trusted.StackMaps.{IsStackMap}
use Rattle.dj_frames.specs.Refusals.{IsFault}

-- the frames of the body, or its first fault; want of memory has no cause in the body
abbrev pub ReadsFrames : (body starts : List ℕ) → Result (List Frame) FrameError → Type 0
ReadsFrames body starts (Ok frames) = IsStackMap body starts frames
ReadsFrames body starts (Err errors.Memory) = ⊤
ReadsFrames body starts (Err e) = IsFault body starts e
