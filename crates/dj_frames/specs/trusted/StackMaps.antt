-- Stack maps (JVMS 4.7.4): the bytes that spell frames. A frame has the number of its instruction. starts are the addresses of all instructions in
-- order, so an instruction's number is its place there.
use Rattle.std.specs.Prelude.{◌≡◌, ℕ, ◌+◌, ◌-◌, ◌^◌, ◌<◌, ◌≤◌, ◌⊎◌, ⊤, List, [], ◌∷◌, ◌++◌, length, slice_index}
use Rattle.std.specs.List.{flat_map, AllByRecursion}
use Rattle.dj_cursor.specs.trusted.Spelling.{u1, u2, table_bytes}
use Rattle.dj_ops.specs.declared.frames.VType.{VType}
use Rattle.dj_ops.specs.declared.frames.VType.TheVariants as types
use Rattle.dj_ops.specs.declared.frames.Form.{Form}
use Rattle.dj_ops.specs.declared.frames.Form.TheVariants as forms
use Rattle.dj_ops.specs.declared.frames.Frame.{Frame}

-- ---- verification types

-- JVMS 4.7.4, verification_type_info: a tag; then an object's class as an index of the pool, or the address of the new instruction
abbrev pub type_bytes : (starts : List ℕ) → VType → List ℕ
type_bytes starts types.Top = u1 0
type_bytes starts types.Integer = u1 1
type_bytes starts types.Float = u1 2
type_bytes starts types.Double = u1 3
type_bytes starts types.Long = u1 4
type_bytes starts types.Null = u1 5
type_bytes starts types.UninitializedThis = u1 6
type_bytes starts (types.Object index) = u1 7 ++ u2 index
type_bytes starts (types.Uninitialized number) = u1 8 ++ u2 (slice_index starts number)

-- a type that can be spelled
abbrev pub IsType : (starts : List ℕ) → VType → Type 0
IsType starts (types.Object index) = index < 2 ^ 16
IsType starts (types.Uninitialized number) = (number < length starts) × (slice_index starts number < 2 ^ 16)
IsType starts _ = ⊤

-- ---- forms

-- all types of a form, in order
abbrev pub types_of : Form → List VType
types_of forms.Same = []
types_of (forms.Stack1 operand) = operand ∷ []
types_of (forms.Chop count) = []
types_of (forms.Append locals) = locals
types_of (forms.Full locals operands) = locals ++ operands

-- how much a form may chop or append, and how long its lists may be
abbrev pub HasCounts : Form → Type 0
HasCounts (forms.Chop count) = (1 ≤ count) × (count ≤ 3)
HasCounts (forms.Append locals) = (1 ≤ length locals) × (length locals ≤ 3)
HasCounts (forms.Full locals operands) = (length locals < 2 ^ 16) × (length operands < 2 ^ 16)
HasCounts _ = ⊤

-- what comes after frame_type and offset_delta
abbrev pub form_bytes : (starts : List ℕ) → Form → List ℕ
form_bytes starts forms.Same = []
form_bytes starts (forms.Stack1 operand) = type_bytes starts operand
form_bytes starts (forms.Chop count) = []
form_bytes starts (forms.Append locals) = flat_map (type_bytes starts) locals
form_bytes starts (forms.Full locals operands) = table_bytes (type_bytes starts) locals ++ table_bytes (type_bytes starts) operands

-- the frame_type that is followed by an offset_delta of two bytes: same_locals_1_stack_item_frame_extended, chop_frame, same_frame_extended,
-- append_frame and full_frame
abbrev pub long_tag : Form → ℕ
long_tag forms.Same = 251
long_tag (forms.Stack1 operand) = 247
long_tag (forms.Chop count) = 251 - count
long_tag (forms.Append locals) = 251 + length locals
long_tag (forms.Full locals operands) = 255

-- the frame_type that has the offset_delta in it: same_frame and same_locals_1_stack_item_frame
abbrev pub IsShortTag : (delta : ℕ) → Form → ℕ → Type 0
IsShortTag delta forms.Same tag = (delta ≤ 63) × (tag ≡ delta)
IsShortTag delta (forms.Stack1 operand) tag = (delta ≤ 63) × (tag ≡ 64 + delta)
IsShortTag delta form tag = ⊥

-- frame_type and offset_delta, which has two bytes or is in frame_type
abbrev pub IsHead : (delta : ℕ) → Form → List ℕ → Type 0
IsHead delta form head =
    ((delta < 2 ^ 16) × (head ≡ u1 (long_tag form) ++ u2 delta))
    ⊎ ((tag : ℕ) × IsShortTag delta form tag × (head ≡ u1 tag))

-- ---- frames

-- a frame, where `least` is the least address that it can have
pub record SpellsFrame (starts : List ℕ) (least : ℕ) (frame : Frame) (text : List ℕ) : Type 0 where
  pub number : frame.at < length starts
  pub delta : ℕ
  pub address : slice_index starts frame.at ≡ least + delta
  pub counts : HasCounts frame.form
  pub types : AllByRecursion (IsType starts) (types_of frame.form)
  pub head : List ℕ
  pub is_head : IsHead delta frame.form head
  pub spelled : text ≡ head ++ form_bytes starts frame.form

-- frames one after the other: the first one's address is its delta, and each other one's is the address before it, its delta, and 1
abbrev pub SpellsFrames : (starts : List ℕ) (least : ℕ) → List Frame → List ℕ → Type 0
SpellsFrames starts least [] text = text ≡ []
SpellsFrames starts least (frame ∷ frames) text =
    (first others : List ℕ) × SpellsFrame starts least frame first
    × SpellsFrames starts (slice_index starts frame.at + 1) frames others × (text ≡ first ++ others)

-- the body is that of a StackMapTable with these frames, and nothing follows
pub record IsStackMap (body starts : List ℕ) (frames : List Frame) : Type 0 where
  pub count : length frames < 2 ^ 16
  pub text : List ℕ
  pub spells : SpellsFrames starts 0 frames text
  pub spelled : body ≡ u2 (length frames) ++ text
