-- The body of a stack map as djvm writes it: each frame has the short form where there is one (JVMS 4.7.4).
use Rattle.std.specs.Prelude.{ℕ, ◌+◌, ◌-◌, List, [], ◌∷◌, ◌++◌, length, Option, Some, None, slice_index, nat_le, if◌then◌else◌}
use Rattle.dj_cursor.specs.trusted.Spelling.{u1, u2}
use Rattle.dj_ops.specs.declared.frames.Form.{Form}
use Rattle.dj_ops.specs.declared.frames.Form.TheVariants as forms
use Rattle.dj_ops.specs.declared.frames.Frame.{Frame}
use Rattle.dj_frames.specs.trusted.StackMaps.{form_bytes, long_tag}

-- the frame_type that has the offset_delta in it, where the form has one and the offset_delta is at most 63
abbrev pub short_tag : ℕ → Form → Option ℕ
short_tag delta forms.Same = if nat_le delta 63 then Some delta else None
short_tag delta (forms.Stack1 operand) = if nat_le delta 63 then Some (64 + delta) else None
short_tag delta form = None

-- frame_type, and offset_delta where it isn't in frame_type
abbrev pub head_with : ℕ → Form → Option ℕ → List ℕ
head_with delta form None = u1 (long_tag form) ++ u2 delta
head_with delta form (Some tag) = u1 tag

abbrev pub head_bytes : ℕ → Form → List ℕ
head_bytes delta form = head_with delta form (short_tag delta form)

-- a frame, with this offset_delta
abbrev pub frame_bytes : (starts : List ℕ) → ℕ → Frame → List ℕ
frame_bytes starts delta frame = head_bytes delta frame.form ++ form_bytes starts frame.form

-- frames, where `least` is the least address that the first can have
unfoldable pub frames_bytes : (starts : List ℕ) → ℕ → List Frame → List ℕ
frames_bytes starts least [] = []
frames_bytes starts least (frame ∷ frames) =
    frame_bytes starts (slice_index starts frame.at - least) frame
    ++ frames_bytes starts (slice_index starts frame.at + 1) frames

-- the whole body
abbrev pub stack_map_bytes : (starts : List ℕ) → List Frame → List ℕ
stack_map_bytes starts frames = u2 (length frames) ++ frames_bytes starts 0 frames
