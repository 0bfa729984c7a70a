-- The code of a method that has a Code attribute, and the frames of its stack map.
use Rattle.std.specs.Prelude.{◌≡◌, ℕ, ◌⊎◌, List, [], ◌∷◌, length, Contains, Option, Some, None}
use Rattle.dj_ops.specs.declared.instruction.Instr.{Instr}
use Rattle.dj_ops.specs.declared.frames.VType.{VType}
use Rattle.dj_ops.specs.declared.frames.VType.TheVariants as types
use Rattle.dj_ops.specs.declared.frames.Frame.{Frame}
use Rattle.dj_pool.specs.trusted.Pool.{Constant}
use Rattle.dj_class.specs.trusted.ClassFile.{MemberInfo}
use Rattle.dj_class.specs.trusted.Code.{CodeInfo, IsCode}
use Rattle.dj_labels.specs.declared.labelled.Labelled.{Labelled}
use Rattle.dj_labels.specs.trusted.Labels.{IsCut, IsLabelled}
use Rattle.dj_frames.specs.trusted.StackMaps.{types_of, IsStackMap}
use Rattle.dj_early_rules.specs.trusted.Attributes.{codes_of, maps_of}

-- the method's Code attribute is this one
pub record IsCodeOf (pool : List Constant) (m : MemberInfo) (code : CodeInfo) : Type 0 where
  pub body : List ℕ
  pub own : Contains (codes_of pool m) body
  pub is : IsCode body code

-- this is the labelled code of the method
pub record IsLabelledOf (pool : List Constant) (m : MemberInfo) (labelled : Labelled) : Type 0 where
  pub code : CodeInfo
  pub own : IsCodeOf pool m code
  pub labels : IsLabelled code.code code.table labelled

-- a float or a double in a frame (JVMS 4.7.4, Float_variable_info and Double_variable_info)
abbrev pub IsFloatType : VType → Type 0
IsFloatType type = (type ≡ types.Float) ⊎ (type ≡ types.Double)

abbrev pub HaveFloats : List VType → Type 0
HaveFloats types = (type : VType) × Contains types type × IsFloatType type

abbrev pub HasFloatType : Frame → Type 0
HasFloatType frame = HaveFloats (types_of frame.form)

-- one of the frames has a float or a double
abbrev pub HaveFloatType : List Frame → Type 0
HaveFloatType frames = (frame : Frame) × Contains frames frame × HasFloatType frame

-- the body is a stack map of code whose instructions start at these addresses, and it has a float or a double
pub record IsFloatMapAt (starts body : List ℕ) : Type 0 where
  pub frames : List Frame
  pub map : IsStackMap body starts frames
  pub float : HaveFloatType frames

-- the same for this code
pub record IsFloatMap (code body : List ℕ) : Type 0 where
  pub starts : List ℕ
  pub instrs : List Instr
  pub cut : IsCut code starts instrs (length code)
  pub map : IsFloatMapAt starts body

-- the stack map of the code has a float or a double
abbrev pub MapsFloat : List Constant → CodeInfo → Type 0
MapsFloat pool code = (body : List ℕ) × Contains (maps_of pool code) body × IsFloatMap code.code body

-- the stack map of the method's code has a float or a double
abbrev pub HasFloatMap : List Constant → MemberInfo → Type 0
HasFloatMap pool m = (code : CodeInfo) × IsCodeOf pool m code × MapsFloat pool code

-- ---- frames

-- the frames of the body, for code whose instructions start at these addresses; none where the body is no stack map
abbrev pub AreFramesAt : List ℕ → List ℕ → Option (List Frame) → Type 0
AreFramesAt starts body (Some frames) = IsStackMap body starts frames
AreFramesAt starts body None = (frames : List Frame) → IsStackMap body starts frames → ⊥

pub record AreFramesOf (code body : List ℕ) (frames : Option (List Frame)) : Type 0 where
  pub starts : List ℕ
  pub instrs : List Instr
  pub cut : IsCut code starts instrs (length code)
  pub are : AreFramesAt starts body frames

-- the frames of code, by the bodies of its StackMapTable attributes, of which there is at most one; without one there are no frames
abbrev pub HasFrames : List ℕ → List (List ℕ) → Option (List Frame) → Type 0
HasFrames code [] frames = frames ≡ Some []
HasFrames code (body ∷ bodies) frames = AreFramesOf code body frames
