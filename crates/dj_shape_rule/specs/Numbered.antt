-- Used by the code alone: frames by the numbers of their instructions.
use Rattle.std.specs.Prelude.{ℕ, zero, suc, ◌≤◌, List, length, get_or, Option, None, slice_get}
use Rattle.dj_shape_rule.specs.declared.frames.KeptFrame.{KeptFrame}

-- the frame at a place, which is one more than its index; at 0 there is none
abbrev pub frame_at : List KeptFrame → ℕ → Option KeptFrame
frame_at kept zero = None
frame_at kept (suc index) = slice_get kept index

-- the frame of the instruction of a number, by the places of all frames
abbrev pub frame_in : List ℕ → List KeptFrame → ℕ → Option KeptFrame
frame_in places kept number = frame_at kept (get_or places number 0)

-- each place is one of those frames, or none
abbrev pub AreWithin : List ℕ → List KeptFrame → Type 0
AreWithin places kept = (number : ℕ) → get_or places number 0 ≤ length kept
