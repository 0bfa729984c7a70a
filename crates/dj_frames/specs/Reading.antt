-- The reader's own: reading a stack map from left to right, with the first fault that is met.
use Rattle.std.specs.Prelude.{ℕ, zero, suc, ◌+◌, ◌-◌, ◌==◌, Bool, true, false, List, [], ◌∷◌, Option, Some, None, Result, Ok, Err, nat_eq, nat_lt, slice_index, if◌then◌else◌}
use Rattle.std.specs.List.{position}
use Rattle.dj_cursor.specs.Steps.{◌>>=◌}
use Rattle.dj_cursor.specs.Reading.{Cursor, start_of, at_end, u1_at, u2_at, many_at, table_at}
use Rattle.dj_ops.specs.declared.frames.VType.{VType}
use Rattle.dj_ops.specs.declared.frames.VType.TheVariants as types
use Rattle.dj_ops.specs.declared.frames.Form.{Form}
use Rattle.dj_ops.specs.declared.frames.Form.TheVariants as forms
use Rattle.dj_ops.specs.declared.frames.Frame.{Frame}
use Rattle.dj_frames.specs.declared.read.FrameError.{FrameError}
use Rattle.dj_frames.specs.declared.read.FrameError.TheVariants as errors

abbrev pub is_memory : FrameError → Bool
is_memory errors.Memory = true
is_memory _ = false

-- the number of the instruction at this address; the item at the place gives the address
abbrev pub found_at : ℕ → Option ℕ → Result ℕ FrameError
found_at place None = Err (errors.NotAnInstruction place)
found_at place (Some number) = Ok number

unfoldable pub number_at : List ℕ → ℕ → ℕ → Result ℕ FrameError
number_at starts place address = found_at place (position (nat_eq address) starts)

-- two bytes that are an instruction's address
unfoldable pub offset_at : List ℕ → Cursor → Result (ℕ × Cursor) FrameError
offset_at starts c = do
  address ← u2_at errors.BadFrame c
  number ← number_at starts c.place address.0
  Ok (number, address.1)

-- ---- verification types

-- the tags that nothing follows
unfoldable pub plain_type_at : ℕ → ℕ → Result VType FrameError
plain_type_at place tag =
    if tag == 0 then Ok types.Top
    else (if tag == 1 then Ok types.Integer
    else (if tag == 2 then Ok types.Float
    else (if tag == 3 then Ok types.Double
    else (if tag == 4 then Ok types.Long
    else (if tag == 5 then Ok types.Null
    else (if tag == 6 then Ok types.UninitializedThis
    else Err (errors.BadFrame place)))))))

unfoldable pub object_at : Cursor → Result (VType × Cursor) FrameError
object_at c = do
  index ← u2_at errors.BadFrame c
  Ok (types.Object index.0, index.1)

unfoldable pub uninitialized_at : List ℕ → Cursor → Result (VType × Cursor) FrameError
uninitialized_at starts c = do
  number ← offset_at starts c
  Ok (types.Uninitialized number.0, number.1)

unfoldable pub bare_type_at : ℕ → ℕ → Cursor → Result (VType × Cursor) FrameError
bare_type_at place tag c = do
  type ← plain_type_at place tag
  Ok (type, c)

unfoldable pub type_at : List ℕ → Cursor → Result (VType × Cursor) FrameError
type_at starts c = do
  tag ← u1_at errors.BadFrame c
  if tag.0 == 7 then object_at tag.1
      else (if tag.0 == 8 then uninitialized_at starts tag.1
      else bare_type_at c.place tag.0 tag.1)

-- ---- frames

unfoldable pub stack1_at : List ℕ → Cursor → Result (Form × Cursor) FrameError
stack1_at starts c = do
  operand ← type_at starts c
  Ok (forms.Stack1 operand.0, operand.1)

unfoldable pub append_at : List ℕ → ℕ → Cursor → Result (Form × Cursor) FrameError
append_at starts count c = do
  locals ← many_at (type_at starts) count c
  Ok (forms.Append locals.0, locals.1)

unfoldable pub full_at : List ℕ → Cursor → Result (Form × Cursor) FrameError
full_at starts c = do
  locals ← table_at errors.BadFrame (type_at starts) c
  operands ← table_at errors.BadFrame (type_at starts) locals.1
  Ok (forms.Full locals.0 operands.0, operands.1)

-- what follows an offset_delta of two bytes, by frame_type, which is 247 at least
unfoldable pub form_at : List ℕ → ℕ → Cursor → Result (Form × Cursor) FrameError
form_at starts tag c =
    if tag == 247 then stack1_at starts c
    else (if nat_lt tag 251 then Ok (forms.Chop (251 - tag), c)
    else (if tag == 251 then Ok (forms.Same, c)
    else (if nat_lt tag 255 then append_at starts (tag - 251) c
    else full_at starts c)))

unfoldable pub long_frame_at : List ℕ → ℕ → ℕ → Cursor → Result (Frame × Cursor) FrameError
long_frame_at starts least tag c = do
  delta ← u2_at errors.BadFrame c
  at ← number_at starts c.place (least + delta.0)
  form ← form_at starts tag delta.1
  Ok (record { at = at; form = form.0 }, form.1)

unfoldable pub same_frame_at : List ℕ → ℕ → ℕ → Cursor → Result (Frame × Cursor) FrameError
same_frame_at starts place address c = do
  at ← number_at starts place address
  Ok (record { at = at; form = forms.Same }, c)

unfoldable pub stack1_frame_at : List ℕ → ℕ → ℕ → Cursor → Result (Frame × Cursor) FrameError
stack1_frame_at starts place address c = do
  at ← number_at starts place address
  form ← stack1_at starts c
  Ok (record { at = at; form = form.0 }, form.1)

-- a frame, where this is the least address that it can have
unfoldable pub frame_at : List ℕ → ℕ → Cursor → Result (Frame × Cursor) FrameError
frame_at starts least c = do
  tag ← u1_at errors.BadFrame c
  if nat_lt tag.0 64 then same_frame_at starts c.place (least + tag.0) tag.1
      else (if nat_lt tag.0 128 then stack1_frame_at starts c.place (least + (tag.0 - 64)) tag.1
      else (if nat_lt tag.0 247 then Err (errors.BadFrame c.place)
      else long_frame_at starts least tag.0 tag.1))

-- this many frames
unfoldable pub frames_at : List ℕ → ℕ → ℕ → Cursor → Result (List Frame × Cursor) FrameError
frames_at starts zero least c = Ok ([], c)
frames_at starts (suc n) least c = do
  first ← frame_at starts least c
  others ← frames_at starts n (slice_index starts first.0.at + 1) first.1
  Ok (first.0 ∷ others.0, others.1)

-- all of the bytes
unfoldable pub frames_read : List ℕ → List ℕ → Result (List Frame) FrameError
frames_read body starts = do
  count ← u2_at errors.BadFrame (start_of body)
  frames ← frames_at starts count.0 0 count.1
  if at_end frames.1 then Ok frames.0 else Err (errors.BadFrame frames.1.place)
