-- Used by the code alone: frames as they are kept, with their local variables in slots.
use Rattle.std.specs.Prelude.{◌≡◌, ℕ, List, Option, Some, None, get_or, nat_eq, slice_get, if◌then◌else◌}
use Rattle.dj_model.specs.trusted.Linking.{or_else}
use Rattle.dj_shape_rule.specs.declared.arena.Slot.{Slot}
use Rattle.dj_shape_rule.specs.declared.frames.KeptFrame.{KeptFrame}
use Rattle.dj_shape_rule.specs.declared.numbered.NumberedFrames.{NumberedFrames}
use Rattle.dj_shape_rule.specs.Arena.{IsIn}
use Rattle.dj_shape_rule.specs.Numbered.{frame_in}

-- one more than the index of the frame at the instruction of this number; 0 where there is none
abbrev pub number_place : NumberedFrames → ℕ → ℕ
number_place reported number = get_or reported.places.items number 0

abbrev pub kept_at : NumberedFrames → ℕ → Option KeptFrame
kept_at reported number = frame_in reported.places.items reported.kept.items number

-- the local variables of each frame are a place of these slots
abbrev pub ArePlaced : List Slot → NumberedFrames → Type 0
ArePlaced slots reported = (index : ℕ) (kept : KeptFrame) → slice_get reported.kept.items index ≡ Some kept → IsIn slots kept.place

-- a frame is kept, at an instruction that had none
abbrev pub HasOneMore : NumberedFrames → NumberedFrames → ℕ → KeptFrame → Type 0
HasOneMore old new at kept = (number : ℕ) → kept_at new number ≡ or_else (kept_at old number) (if nat_eq at number then Some kept else None)

abbrev pub HasSame : NumberedFrames → NumberedFrames → Type 0
HasSame old new = (number : ℕ) → kept_at new number ≡ kept_at old number
