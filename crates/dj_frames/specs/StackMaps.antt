-- Beside trusted/StackMaps.antt: what no clause of the call `djvm` reaches.
use Rattle.std.specs.Prelude.{ℕ, ◌^◌, ◌<◌, ⊤, List, length, AllPairs, All}
use Rattle.std.specs.List.Sorted.{IsStrictlyIncreasing}
use Rattle.dj_ops.specs.declared.frames.VType.{VType}
use Rattle.dj_ops.specs.declared.frames.VType.TheVariants as types
use Rattle.dj_ops.specs.declared.frames.Frame.{Frame}
use Rattle.dj_frames.specs.trusted.StackMaps.{IsType, types_of, HasCounts}

-- ---- which frames are well formed, so that a stack map can have them

-- a type's instruction, if it has one, is below this number
abbrev pub IsTypeBelow : ℕ → VType → Type 0
IsTypeBelow limit (types.Uninitialized number) = number < limit
IsTypeBelow limit _ = ⊤

-- each number in the frame is below this limit
pub record IsFrameBelow (limit : ℕ) (frame : Frame) : Type 0 where
  pub at : frame.at < limit
  pub types : All (IsTypeBelow limit) (types_of frame.form)

pub record IsWellFormed (starts : List ℕ) (frame : Frame) : Type 0 where
  pub number : frame.at < length starts
  pub counts : HasCounts frame.form
  pub types : All (IsType starts) (types_of frame.form)

pub record AreWellFormed (starts : List ℕ) (frames : List Frame) : Type 0 where
  pub starts_rise : IsStrictlyIncreasing starts
  pub addresses : All (λ address. address < 2 ^ 16) starts
  pub count : length frames < 2 ^ 16
  pub frames_rise : AllPairs (λ a b. a.at < b.at) frames
  pub each : All (IsWellFormed starts) frames
