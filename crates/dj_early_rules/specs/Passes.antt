-- Used by the code alone: what its passes hand on to one another.
use Rattle.std.specs.Prelude.{◌≡◌, ◌≢◌, ◌↔◌, ℕ, Bool, true, false, IsTrue, ◌⊎◌, ◌<◌, ◌^◌, List, [], ◌∷◌, length, Contains, Option, Some, None}
use Rattle.std.specs.List.{AllByRecursion}
use Rattle.std.specs.Borrow.{Bor}
use Rattle.dj_ops.specs.declared.frames.Frame.{Frame}
use Rattle.dj_ops.specs.declared.rows.CatchRow.{CatchRow}
use Rattle.dj_pool.specs.trusted.Pool.{Constant}
use Rattle.dj_class.specs.trusted.ClassFile.{MemberInfo, ClassFile}
use Rattle.dj_report.specs.declared.report.PathFile.{PathFile}
use Rattle.dj_file_rules.specs.trusted.Violations.{this_name}
use Rattle.dj_class.specs.trusted.Code.{CodeInfo, IsCode}
use Rattle.dj_labels.specs.declared.labelled.Labelled.{Labelled}
use Rattle.dj_labels.specs.declared.labelled.Labelling.{Labelling}
use Rattle.dj_labels.specs.declared.errors.CodeError.{CodeError}
use Rattle.dj_labels.specs.declared.errors.CodeError.TheVariants as code_errors
use Rattle.dj_frames.specs.declared.read.FrameError.{FrameError}
use Rattle.dj_frames.specs.declared.read.FrameError.TheVariants as frame_errors
use Rattle.dj_labels.specs.trusted.Labels.{IsLabelled}
use Rattle.dj_labels.specs.Passes.{AreStarts}
use Rattle.dj_early_rules.specs.declared.code.WholeCode.{WholeCode}
use Rattle.dj_early_rules.specs.declared.code.MethodBody.{MethodBody}
use Rattle.dj_early_rules.specs.declared.code.MethodBody.TheVariants as methods
use Rattle.dj_early_rules.specs.declared.good.GoodFile.{GoodFile}
use Rattle.dj_early_rules.specs.trusted.Heads.{HasRepeats}
use Rattle.dj_early_rules.specs.Gathered.{IsHeadOf}
use Rattle.dj_early_rules.specs.trusted.Attributes.{codes_of, maps_of}
use Rattle.dj_early_rules.specs.trusted.Code.{HaveFloatType, IsFloatMap, AreFramesAt, HasFrames}
use Rattle.dj_early_rules.specs.trusted.Malformed.{IsRefused, IsGood, LacksLabels, IsFaultyCode, IsFaultyBody, IsFaultyMethod}

-- ---- code

-- memory ran out
abbrev pub lacks_memory : CodeError → Bool
lacks_memory code_errors.Memory = true
lacks_memory _ = false

-- the same, of frames
abbrev pub lacks_memory_of_frames : FrameError → Bool
lacks_memory_of_frames frame_errors.Memory = true
lacks_memory_of_frames _ = false

-- the labels of code, and where its instructions start
pub record IsLabellingOf (code : List ℕ) (table : List CatchRow) (labelling : Labelling) : Type 0 where
  pub labels : IsLabelled code table labelling.labelled
  pub starts : AreStarts code labelling.starts.items

-- or none where there are none
abbrev pub IsLabelling : List ℕ → List CatchRow → Option Labelling → Type 0
IsLabelling code table None = (labelled : Labelled) → IsLabelled code table labelled → ⊥
IsLabelling code table (Some labelling) = IsLabellingOf code table labelling

-- the frames by the bodies of the stack maps, of which there is one at most, for code with these starts
abbrev pub HasFramesAt : List ℕ → List (List ℕ) → Option (List Frame) → Type 0
HasFramesAt starts [] frames = frames ≡ Some []
HasFramesAt starts (body ∷ bodies) frames = AreFramesAt starts body frames

-- there are frames, and one of them has a float or a double
abbrev pub HasFloatFrames : Option (List Frame) → Type 0
HasFloatFrames None = ⊥
HasFloatFrames (Some frames) = HaveFloatType frames

-- the body that is there
abbrev pub bodies_in : Option (Bor (List ℕ)) → List (List ℕ)
bodies_in None = []
bodies_in (Some body) = body.now ∷ []

-- what is kept of code without a fault
pub record IsWholeCode (pool : List Constant) (info : CodeInfo) (code : WholeCode) : Type 0 where
  pub stack : code.max_stack ≡ info.max_stack
  pub locals : code.max_locals ≡ info.max_locals
  pub bytes : code.code.now ≡ info.code
  pub labels : IsLabelled info.code info.table code.labelled
  pub maps : maps_of pool info ≡ bodies_in code.map
  pub frames : HasFrames code.code.now (bodies_in code.map) code.frames

-- what is kept of code with these bodies of a stack map, at most one; or that it can't be labelled
pub record IsMappedCode (info : CodeInfo) (maps : List (List ℕ)) (code : WholeCode) : Type 0 where
  pub stack : code.max_stack ≡ info.max_stack
  pub locals : code.max_locals ≡ info.max_locals
  pub bytes : code.code.now ≡ info.code
  pub labels : IsLabelled info.code info.table code.labelled
  pub maps_are : maps ≡ bodies_in code.map
  pub frames : HasFrames code.code.now (bodies_in code.map) code.frames

abbrev pub IsMappedView : CodeInfo → List (List ℕ) → Option WholeCode → Type 0
IsMappedView info maps None = LacksLabels info
IsMappedView info maps (Some code) = IsMappedCode info maps code

abbrev pub IsCodeView : List Constant → CodeInfo → Option WholeCode → Type 0
IsCodeView pool info None = IsFaultyCode pool info
IsCodeView pool info (Some code) = IsWholeCode pool info code

-- the body of a Code attribute is that of whole code
pub record IsWholeBody (pool : List Constant) (body : List ℕ) (code : WholeCode) : Type 0 where
  pub info : CodeInfo
  pub is : IsCode body info
  pub whole : IsWholeCode pool info code

abbrev pub IsBodyView : List Constant → List ℕ → Option WholeCode → Type 0
IsBodyView pool body None = IsFaultyBody pool body
IsBodyView pool body (Some code) = IsWholeBody pool body code

-- what a native or abstract method has that has these bodies of code
abbrev pub IsBodilessView : List (List ℕ) → MethodBody → Type 0
IsBodilessView bodies methods.Faulty = bodies ≢ []
IsBodilessView bodies methods.Bodiless = bodies ≡ []
IsBodilessView bodies (methods.Whole code) = ⊥

-- another method has one body, which is whole
pub record IsOneBody (pool : List Constant) (bodies : List (List ℕ)) (code : WholeCode) : Type 0 where
  pub body : List ℕ
  pub one : bodies ≡ body ∷ []
  pub whole : IsWholeBody pool body code

-- the method doesn't have exactly one body, or has one that is faulty
abbrev pub HasBadBodies : List Constant → List (List ℕ) → Type 0
HasBadBodies pool bodies = (length bodies ≢ 1) ⊎ ((body : List ℕ) × (bodies ≡ body ∷ []) × IsFaultyBody pool body)

abbrev pub IsOwnView : List Constant → List (List ℕ) → MethodBody → Type 0
IsOwnView pool bodies methods.Faulty = HasBadBodies pool bodies
IsOwnView pool bodies methods.Bodiless = ⊥
IsOwnView pool bodies (methods.Whole code) = IsOneBody pool bodies code

-- the method has this code
pub record IsWholeMethod (pool : List Constant) (m : MemberInfo) (code : WholeCode) : Type 0 where
  pub sound : IsFaultyMethod pool m → ⊥
  pub body : List ℕ
  pub one : codes_of pool m ≡ body ∷ []
  pub whole : IsWholeBody pool body code

abbrev pub IsMethodView : List Constant → MemberInfo → MethodBody → Type 0
IsMethodView pool m methods.Faulty = IsFaultyMethod pool m
IsMethodView pool m methods.Bodiless = (IsFaultyMethod pool m → ⊥) × (codes_of pool m ≡ [])
IsMethodView pool m (methods.Whole code) = IsWholeMethod pool m code

-- the code has fewer than 65,536 bytes, and its map is short
pub record IsShortCode (code : WholeCode) : Type 0 where
  pub few : length code.code.now < 2 ^ 16
  pub instrs : length code.labelled.code < 2 ^ 32
  pub map : AllByRecursion (λ body. length body < 2 ^ 32) (bodies_in code.map)

-- the stack map of the code has a float or a double
abbrev pub HasMapOf : WholeCode → Type 0
HasMapOf code = (body : List ℕ) × Contains (bodies_in code.map) body × IsFloatMap code.code.now body

-- ---- files

-- the head of the class, and whether two fields or two methods have the same name and the same descriptor
pub record IsGoodPart (c : ClassFile) (part : GoodFile) : Type 0 where
  pub head_is : IsHeadOf c part.head
  pub reported : IsTrue part.repeats ↔ HasRepeats c

-- the class's name, and none where rule 1 is violated
abbrev pub SaysName : PathFile → Option (Bor (List ℕ)) → Type 0
SaysName file None = IsRefused file.bytes.now
SaysName file (Some name) = (c : ClassFile) × IsGood file.bytes.now c × (name.now ≡ this_name c)
