-- The frames of a run (JVMS 2.6), the top first.
use Rattle.std.specs.Prelude.{◌≡◌, ℕ, List, [], ◌∷◌, length, replicate, reverse, Option, Some, None, slice_get, option_and_then}
use Rattle.dj_names.specs.declared.run.Value.{Value}

pub record StackFrame : Type 0 where
  pub method : ℕ
  -- the number of the instruction that is next, or under way
  pub number : ℕ
  pub locals : List (Option Value)
  -- the top first
  pub operands : List Value
  -- this many operands have room
  pub room : ℕ

-- the most frames that a run has
abbrev pub most_frames : ℕ
most_frames = 1024

-- ---- the top frame

abbrev pub frame_of : List StackFrame → Option StackFrame
frame_of [] = None
frame_of (frame ∷ below) = Some frame

abbrev pub below_top : List StackFrame → List StackFrame
below_top [] = []
below_top (frame ∷ below) = below

-- where there is no frame it counts as empty
abbrev pub top_operands : List StackFrame → List Value
top_operands [] = []
top_operands (frame ∷ below) = frame.operands

abbrev pub top_locals : List StackFrame → List (Option Value)
top_locals [] = []
top_locals (frame ∷ below) = frame.locals

abbrev pub top_room : List StackFrame → ℕ
top_room [] = 0
top_room (frame ∷ below) = frame.room

abbrev pub top_method : List StackFrame → ℕ
top_method [] = 0
top_method (frame ∷ below) = frame.method

abbrev pub top_number : List StackFrame → ℕ
top_number [] = 0
top_number (frame ∷ below) = frame.number

-- ---- what a call leaves as it was

-- all but the number, the operands and the locals of the top frame
pub record SameFrames (old new : List StackFrame) : Type 0 where
  pub count : length new ≡ length old
  pub method : top_method new ≡ top_method old
  pub room : top_room new ≡ top_room old
  pub below : below_top new ≡ below_top old

-- all but the operands of the top frame
pub record SameButOperands (old new : List StackFrame) : Type 0 where
  pub frames : SameFrames old new
  pub number : top_number new ≡ top_number old
  pub locals : top_locals new ≡ top_locals old

-- all but the locals of the top frame
pub record SameButLocals (old new : List StackFrame) : Type 0 where
  pub frames : SameFrames old new
  pub number : top_number new ≡ top_number old
  pub operands : top_operands new ≡ top_operands old

-- all but the number of the top frame
pub record SameButNumber (old new : List StackFrame) : Type 0 where
  pub frames : SameFrames old new
  pub operands : top_operands new ≡ top_operands old
  pub locals : top_locals new ≡ top_locals old

-- ---- a new frame

-- at instruction 0, without operands, and its locals have no value
abbrev pub new_frame : ℕ → ℕ → ℕ → StackFrame
new_frame method locals room = record { method = method; number = 0; locals = replicate locals None; operands = []; room = room }

-- ---- any frame, counted from 0 at the bottom

abbrev pub frame_at : List StackFrame → ℕ → Option StackFrame
frame_at frames f = slice_get (reverse frames) f

abbrev pub local_at : List StackFrame → ℕ → ℕ → Option (Option Value)
local_at frames f at = option_and_then (λ (frame : StackFrame). slice_get frame.locals at) (frame_at frames f)

-- operands are counted from 0 at the bottom too
abbrev pub operand_at : List StackFrame → ℕ → ℕ → Option Value
operand_at frames f at = option_and_then (λ (frame : StackFrame). slice_get (reverse frame.operands) at) (frame_at frames f)
