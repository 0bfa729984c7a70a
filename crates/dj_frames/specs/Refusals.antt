-- Bodies that are no stack map, and why: the first item, from left to right, that is cut, has a value that its place doesn't allow, or
-- gives an address where no instruction starts; or bytes after the last item.
use Rattle.std.specs.Prelude.{◌≡◌, ℕ, ◌+◌, ◌-◌, ◌^◌, ◌<◌, ◌≤◌, ◌⊎◌, List, [], ◌∷◌, ◌++◌, length, slice_index, Contains}
use Rattle.std.specs.List.{flat_map, AllByRecursion}
use Rattle.dj_cursor.specs.trusted.Spelling.{u2, table_bytes}
use Rattle.dj_ops.specs.declared.frames.VType.{VType}
use Rattle.dj_ops.specs.declared.frames.Frame.{Frame}
use Rattle.dj_frames.specs.declared.read.FrameError.{FrameError}
use Rattle.dj_frames.specs.declared.read.FrameError.TheVariants as errors
use Rattle.dj_frames.specs.trusted.StackMaps.{type_bytes, IsType, SpellsFrames}

-- ---- what is good up to a place

-- two bytes are this number, and what follows them
pub record BeginsWithNumber (rest : List ℕ) (number : ℕ) (more : List ℕ) : Type 0 where
  pub fits : number < 2 ^ 16
  pub are : rest ≡ u2 number ++ more

-- this many types, and what follows them
pub record BeginsWithTypes (starts rest : List ℕ) (found : List VType) (more : List ℕ) : Type 0 where
  pub good : AllByRecursion (IsType starts) found
  pub are : rest ≡ flat_map (type_bytes starts) found ++ more

-- the first frames of a stack map, and what follows them
pub record BeginsWithFrames (starts rest : List ℕ) (found : List Frame) (more : List ℕ) : Type 0 where
  pub text : List ℕ
  pub spells : SpellsFrames starts 0 found text
  pub are : rest ≡ text ++ more

-- the least address of a frame that follows these
abbrev pub least_after : (starts : List ℕ) → ℕ → List Frame → ℕ
least_after starts least [] = least
least_after starts least (frame ∷ frames) = least_after starts (slice_index starts frame.at + 1) frames

-- ---- items; the bytes from this place on are rest, and their first item is faulty

-- fewer than two bytes are left where two are wanted
abbrev pub IsCut : (place : ℕ) → List ℕ → FrameError → Type 0
IsCut place rest e = (length rest < 2) × (e ≡ errors.BadFrame place)

-- the item at the place gives an address where no instruction starts
abbrev pub NoInstructionAt : (starts : List ℕ) (address place : ℕ) → FrameError → Type 0
NoInstructionAt starts address place e = (Contains starts address → ⊥) × (e ≡ errors.NotAnInstruction place)

-- ---- verification types

-- two bytes are there, and are no instruction's address
pub record HasFaultyAddress (starts : List ℕ) (place : ℕ) (rest : List ℕ) (e : FrameError) : Type 0 where
  pub address : ℕ
  pub more : List ℕ
  pub begins : BeginsWithNumber rest address more
  pub none : NoInstructionAt starts address place e

-- no tag, one above 8, or what follows 7 and 8 is cut or gives no instruction
abbrev pub IsFaultyType : (starts : List ℕ) (place : ℕ) → List ℕ → FrameError → Type 0
IsFaultyType starts place [] e = e ≡ errors.BadFrame place
IsFaultyType starts place (tag ∷ rest) e =
    ((8 < tag) × (e ≡ errors.BadFrame place))
    ⊎ (((tag ≡ 7) ⊎ (tag ≡ 8)) × IsCut (place + 1) rest e)
    ⊎ ((tag ≡ 8) × HasFaultyAddress starts (place + 1) rest e)

-- after fewer types than this many, the next is faulty
pub record AreFaultyTypes (starts : List ℕ) (count place : ℕ) (rest : List ℕ) (e : FrameError) : Type 0 where
  pub found : List VType
  pub more : List ℕ
  pub begins : BeginsWithTypes starts rest found more
  pub few : length found < count
  pub next : IsFaultyType starts (place + length (flat_map (type_bytes starts) found)) more e

-- after a count, types are faulty
pub record HasFaultyTypes (starts : List ℕ) (place : ℕ) (rest : List ℕ) (e : FrameError) : Type 0 where
  pub count : ℕ
  pub more : List ℕ
  pub begins : BeginsWithNumber rest count more
  pub types : AreFaultyTypes starts count (place + 2) more e

-- a count and this many types
abbrev pub IsFaultyTable : (starts : List ℕ) (place : ℕ) → List ℕ → FrameError → Type 0
IsFaultyTable starts place rest e = IsCut place rest e ⊎ HasFaultyTypes starts place rest e

-- ---- frames

-- full_frame: after the locals the operands are faulty
pub record HasFaultyOperands (starts : List ℕ) (place : ℕ) (rest : List ℕ) (e : FrameError) : Type 0 where
  pub locals : List VType
  pub more : List ℕ
  pub few : length locals < 2 ^ 16
  pub good : AllByRecursion (IsType starts) locals
  pub begins : rest ≡ table_bytes (type_bytes starts) locals ++ more
  pub operands : IsFaultyTable starts (place + length (table_bytes (type_bytes starts) locals)) more e

-- what follows offset_delta, by frame_type
abbrev pub IsFaultyForm : (starts : List ℕ) (tag place : ℕ) → List ℕ → FrameError → Type 0
IsFaultyForm starts tag place rest e =
    ((tag ≡ 247) × IsFaultyType starts place rest e)
    ⊎ ((252 ≤ tag) × (tag ≤ 254) × AreFaultyTypes starts (tag - 251) place rest e)
    ⊎ ((tag ≡ 255) × (IsFaultyTable starts place rest e ⊎ HasFaultyOperands starts place rest e))

-- an offset_delta that leads to no instruction, or a good one, after which the form is faulty
pub record HasFaultyDelta (starts : List ℕ) (least tag place : ℕ) (rest : List ℕ) (e : FrameError) : Type 0 where
  pub delta : ℕ
  pub more : List ℕ
  pub begins : BeginsWithNumber rest delta more
  pub cause : NoInstructionAt starts (least + delta) place e
      ⊎ (Contains starts (least + delta) × IsFaultyForm starts tag (place + 2) more e)

-- a frame, where this is the least address that it can have
abbrev pub IsFaultyFrame : (starts : List ℕ) (least place : ℕ) → List ℕ → FrameError → Type 0
IsFaultyFrame starts least place [] e = e ≡ errors.BadFrame place
IsFaultyFrame starts least place (tag ∷ rest) e =
    -- same_frame
    ((tag ≤ 63) × NoInstructionAt starts (least + tag) place e)
    -- same_locals_1_stack_item_frame
    ⊎ ((64 ≤ tag) × (tag ≤ 127) × (NoInstructionAt starts (least + (tag - 64)) place e
    ⊎ (Contains starts (least + (tag - 64)) × IsFaultyType starts (place + 1) rest e)))
    -- no frame_type
    ⊎ ((128 ≤ tag) × (tag ≤ 246) × (e ≡ errors.BadFrame place))
    ⊎ ((247 ≤ tag) × (IsCut (place + 1) rest e ⊎ HasFaultyDelta starts least tag (place + 1) rest e))

-- ---- the whole body

-- after fewer frames than this many, the next is faulty
pub record HasFaultyFrame (starts : List ℕ) (count : ℕ) (rest : List ℕ) (e : FrameError) : Type 0 where
  pub found : List Frame
  pub more : List ℕ
  pub begins : BeginsWithFrames starts rest found more
  pub few : length found < count
  pub next : IsFaultyFrame starts (least_after starts 0 found) (2 + length begins.text) more e

-- after this many frames, bytes are left
pub record HasMore (starts : List ℕ) (count : ℕ) (rest : List ℕ) (e : FrameError) : Type 0 where
  pub found : List Frame
  pub more : List ℕ
  pub begins : BeginsWithFrames starts rest found more
  pub all : length found ≡ count
  pub left : 0 < length more
  pub error : e ≡ errors.BadFrame (2 + length begins.text)

-- after number_of_entries
pub record HasFaultyFrames (body starts : List ℕ) (e : FrameError) : Type 0 where
  pub count : ℕ
  pub rest : List ℕ
  pub begins : BeginsWithNumber body count rest
  pub cause : HasFaultyFrame starts count rest e ⊎ HasMore starts count rest e

-- this is the first fault of the body
abbrev pub IsFault : (body starts : List ℕ) → FrameError → Type 0
IsFault body starts e = IsCut 0 body e ⊎ HasFaultyFrames body starts e
