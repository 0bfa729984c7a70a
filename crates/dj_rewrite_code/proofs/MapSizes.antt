-- A stack map that is moved and written is at most three times as long as the one that was read.
use Rattle.std.proofs.Common.{◌≡◌, ℕ, suc, ◌+◌, ◌*◌, ◌-◌, ◌≤◌, List, [], ◌∷◌, ◌++◌, map, length, length-append, Option, Some, None, slice_index, refl, ap, ◌∙◌, arith, inl, inr}
use Rattle.std.specs.List.{flat_map}
use Rattle.dj_cursor.specs.trusted.Spelling.{u2, table_bytes}
use Rattle.dj_ops.specs.declared.frames.VType.{VType}
use Rattle.dj_ops.specs.declared.frames.VType.TheVariants as types
use Rattle.dj_ops.specs.declared.frames.Form.{Form}
use Rattle.dj_ops.specs.declared.frames.Form.TheVariants as forms
use Rattle.dj_ops.specs.declared.frames.Frame.{Frame}
use Rattle.dj_frames.specs.trusted.StackMaps.{type_bytes, form_bytes, IsHead, SpellsFrames, IsStackMap}
use Rattle.dj_frames.specs.trusted.Written.{short_tag, head_with, head_bytes, frames_bytes, stack_map_bytes}
use Rattle.dj_frames.specs.Moves.{moved_type, moved_form, moved_frame}

-- ---- sizes

abbrev type_size : VType → ℕ
type_size (types.Object index) = 3
type_size (types.Uninitialized number) = 3
type_size t = 1

abbrev types_size : List VType → ℕ
types_size [] = 0
types_size (t ∷ ts) = type_size t + types_size ts

abbrev form_size : Form → ℕ
form_size forms.Same = 0
form_size (forms.Stack1 operand) = type_size operand
form_size (forms.Chop count) = 0
form_size (forms.Append locals) = types_size locals
form_size (forms.Full locals operands) = (2 + types_size locals) + (2 + types_size operands)

-- those of all frames, and the number of frames
abbrev frames_size : List Frame → ℕ
frames_size [] = 0
frames_size (frame ∷ frames) = form_size frame.form + frames_size frames

type_long : (starts : List ℕ) (t : VType) → length (type_bytes starts t) ≡ type_size t
type_long starts types.Top = refl
type_long starts types.Integer = refl
type_long starts types.Float = refl
type_long starts types.Double = refl
type_long starts types.Long = refl
type_long starts types.Null = refl
type_long starts types.UninitializedThis = refl
type_long starts (types.Object index) = refl
type_long starts (types.Uninitialized number) = refl

types_long : (starts : List ℕ) (ts : List VType) → length (flat_map (type_bytes starts) ts) ≡ types_size ts
types_long starts [] = refl
types_long starts (t ∷ ts) = let a = length-append (type_bytes starts t) (flat_map (type_bytes starts) ts) in omega (arith, a, type_long starts t, types_long starts ts)

table_long : (starts : List ℕ) (ts : List VType) → length (table_bytes (type_bytes starts) ts) ≡ 2 + types_size ts
table_long starts ts = let a = length-append (u2 (length ts)) (flat_map (type_bytes starts) ts) in omega (arith, a, types_long starts ts)

form_long : (starts : List ℕ) (form : Form) → length (form_bytes starts form) ≡ form_size form
form_long starts forms.Same = refl
form_long starts (forms.Stack1 operand) = type_long starts operand
form_long starts (forms.Chop count) = refl
form_long starts (forms.Append locals) = types_long starts locals
form_long starts (forms.Full locals operands) =
    let a = length-append (table_bytes (type_bytes starts) locals) (table_bytes (type_bytes starts) operands) in
    omega (arith, a, table_long starts locals, table_long starts operands)

-- ---- frames keep their sizes

type_kept : (own : List ℕ) (t : VType) → type_size (moved_type own t) ≡ type_size t
type_kept own types.Top = refl
type_kept own types.Integer = refl
type_kept own types.Float = refl
type_kept own types.Double = refl
type_kept own types.Long = refl
type_kept own types.Null = refl
type_kept own types.UninitializedThis = refl
type_kept own (types.Object index) = refl
type_kept own (types.Uninitialized number) = refl

types_kept : (own : List ℕ) (ts : List VType) → types_size (map (moved_type own) ts) ≡ types_size ts
types_kept own [] = refl
types_kept own (t ∷ ts) = let a = type_kept own t in omega (arith, a, types_kept own ts)

form_kept : (own : List ℕ) (form : Form) → form_size (moved_form own form) ≡ form_size form
form_kept own forms.Same = refl
form_kept own (forms.Stack1 operand) = type_kept own operand
form_kept own (forms.Chop count) = refl
form_kept own (forms.Append locals) = types_kept own locals
form_kept own (forms.Full locals operands) = omega (arith, types_kept own locals, types_kept own operands)

frames_kept : (start own : List ℕ) (frames : List Frame) → frames_size (map (moved_frame start own) frames) ≡ frames_size frames
frames_kept start own [] = refl
frames_kept start own (frame ∷ frames) = omega (arith, form_kept own frame.form, frames_kept start own frames)

many_kept : (start own : List ℕ) (frames : List Frame) → length (map (moved_frame start own) frames) ≡ length frames
many_kept start own [] = refl
many_kept start own (frame ∷ frames) = ap suc (many_kept start own frames)

-- ---- what was read is at least as long

head_some : (delta : ℕ) (form : Form) (head : List ℕ) → IsHead delta form head → 1 ≤ length head
head_some delta form head (inl long) = let e = ap length long.1 in omega (arith, e)
head_some delta form head (inr short) = let e = ap length short.2 in omega (arith, e)

read_long : (starts : List ℕ) (least : ℕ) (frames : List Frame) (text : List ℕ) → SpellsFrames starts least frames text → length frames + frames_size frames ≤ length text
read_long starts least [] text s = omega arith
read_long starts least (frame ∷ frames) text s =
    let one = s.2 in
    let a = ap length one.spelled ∙ length-append one.head (form_bytes starts frame.form) in
    let b = ap length s.4 ∙ length-append s.0 s.1 in
    omega (arith, a, b, head_some one.delta frame.form one.head one.is_head, form_long starts frame.form, read_long starts (slice_index starts frame.at + 1) frames s.1 s.3)

-- ---- what is written is at most as long

head_short : (delta : ℕ) (form : Form) → length (head_bytes delta form) ≤ 3
head_short delta form = go (short_tag delta form) where
  go : (o : Option ℕ) → length (head_with delta form o) ≤ 3
  go None = omega arith
  go (Some tag) = omega arith

written_short : (starts : List ℕ) (least : ℕ) (frames : List Frame) → length (frames_bytes starts least frames) ≤ 3 * length frames + frames_size frames
unfolding frames_bytes
written_short starts least [] = omega arith
written_short starts least (frame ∷ frames) =
    let delta = slice_index starts frame.at - least in
    let head = head_bytes delta frame.form in
    let a = length-append (head ++ form_bytes starts frame.form) (frames_bytes starts (slice_index starts frame.at + 1) frames) in
    let b = length-append head (form_bytes starts frame.form) in
    omega (arith, a, b, head_short delta frame.form, form_long starts frame.form, written_short starts (slice_index starts frame.at + 1) frames)

pub map_short : (old new start own body : List ℕ) (frames : List Frame) → IsStackMap body old frames → length (stack_map_bytes new (map (moved_frame start own) frames)) ≤ 3 * length body
map_short old new start own body frames is =
    let moved = map (moved_frame start own) frames in
    let a = length-append (u2 (length moved)) (frames_bytes new 0 moved) in
    let b = ap length is.spelled ∙ length-append (u2 (length frames)) is.text in
    omega (arith, a, b, read_long old 0 frames is.text is.spells, written_short new 0 moved, frames_kept start own frames, many_kept start own frames)

pub no_map_short : (new start own : List ℕ) → length (stack_map_bytes new (map (moved_frame start own) [])) ≤ 2
unfolding frames_bytes
no_map_short new start own = omega arith
