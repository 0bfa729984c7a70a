-- What rewriting one method answers.
use Rattle.std.specs.Prelude.{◌≡◌, ℕ, ◌+◌, ◌<◌, ◌≤◌, ◌^◌, ⊤, List, [], ◌∷◌, map, filter, length, codes, All, Option, Some, None, Result, Ok, Err}
use Rattle.std.specs.List.{AllByRecursion}
use Rattle.std.specs.List.Sorted.{IsStrictlyIncreasing}
use Rattle.dj_ops.specs.declared.frames.Frame.{Frame}
use Rattle.dj_pool.specs.trusted.Pool.{Constant}
use Rattle.dj_class.specs.trusted.ClassFile.{AttributeInfo, MemberInfo}
use Rattle.dj_class.specs.trusted.Code.{CodeInfo, IsCodeInfo, code_info_bytes}
use Rattle.dj_frames.specs.StackMaps.{IsFrameBelow, AreWellFormed}
use Rattle.dj_frames.specs.Moves.{moved_frame}
use Rattle.dj_frames.specs.trusted.Written.{stack_map_bytes}
use Rattle.dj_early_rules.specs.trusted.Attributes.{is_named}
use Rattle.dj_early_rules.specs.trusted.Malformed.{IsFaultyMethod}
use Rattle.dj_model.specs.trusted.Program.{Program}
use Rattle.dj_groups.specs.Groups.{Group, groups_of, starts, owns}
use Rattle.dj_program.specs.trusted.Codes.{CodeParts, code_in, IsMethodCode}
use Rattle.dj_emit.specs.Groups.{IsKnownNew}
use Rattle.dj_emit.specs.Filed.{CanBeGrouped}
use Rattle.dj_emit.specs.declared.spelling.Grouped.{Grouped}
use Rattle.dj_rewritten.specs.Files.{frames_in, IsRewrittenCode, IsRewrittenBody}
use Rattle.dj_rewritten.specs.TooLarge.{DoesNotFit}
use Rattle.dj_rewrite_code.specs.declared.error.CodeError.{CodeError}
use Rattle.dj_rewrite_code.specs.declared.error.CodeError.TheVariants as errors
use Rattle.dj_rewrite_code.specs.declared.method.CodeBody.{CodeBody}

-- ---- attributes

abbrev pub with_body : List ℕ → AttributeInfo → AttributeInfo
with_body body a = record { name = a.name; body = body }

-- ---- stack maps

-- the frames stand at numbers of the original code, and fit the code in groups at these addresses
pub record CanMove (grouped : Grouped) (addresses : List ℕ) (frames : List Frame) : Type 0 where
  pub rise : IsStrictlyIncreasing grouped.start
  pub below_start : All (IsFrameBelow (length grouped.start)) frames
  pub below_own : All (IsFrameBelow (length grouped.own)) frames
  pub formed : AreWellFormed addresses (map (moved_frame grouped.start grouped.own) frames)

-- ---- one Code attribute

abbrev pub groups_by : Program → List Constant → CodeParts → List Group
groups_by program pool parts = groups_of program (code_in pool parts)

-- what is known of code that is rewritten: its parts are those of the Code attribute, of which the stack maps are few and short
pub record CanRewrite (program : Program) (pool : List Constant) (first : ℕ) (info : CodeInfo) (parts : CodeParts) : Type 0 where
  pub first_fits : first + 25 < 2 ^ 16
  pub code : CanBeGrouped program pool parts.labelled
  pub info_valid : IsCodeInfo info
  pub stack : parts.max_stack ≡ info.max_stack
  pub some : 0 < length parts.labelled.code
  pub catches : AllByRecursion (λ range. range.catch_type < 2 ^ 16) parts.labelled.ranges
  pub old : List ℕ
  pub old_count : length old ≡ length parts.labelled.code
  pub frames : AreWellFormed old (frames_in parts.frames)
  pub one_map : length (filter (is_named pool (codes "StackMapTable")) info.attributes) ≤ 1
  pub short : (addresses : List ℕ) → length (stack_map_bytes addresses (map (moved_frame (starts (groups_by program pool parts)) (owns (groups_by program pool parts))) (frames_in parts.frames))) < 2 ^ 30

-- the bytes are those of the rewritten attribute
pub record IsWritten (program : Program) (pool : List Constant) (first : ℕ) (info : CodeInfo) (parts : CodeParts) (bytes : List ℕ) : Type 0 where
  pub new : CodeInfo
  pub is : bytes ≡ code_info_bytes new
  pub rewritten : IsRewrittenCode program pool first info parts new
  pub fits : DoesNotFit first (groups_by program pool parts) parts → ⊥
  pub small : length bytes < 2 ^ 32

abbrev pub WritesCode : Program → List Constant → ℕ → CodeInfo → CodeParts → Result (List ℕ) CodeError → Type 0
WritesCode program pool first info parts (Ok bytes) = IsWritten program pool first info parts bytes
WritesCode program pool first info parts (Err errors.TooLarge) = DoesNotFit first (groups_by program pool parts) parts
WritesCode program pool first info parts (Err errors.Memory) = ⊤

-- ---- one method

-- the rewritten attribute
abbrev pub attribute_in : CodeBody → AttributeInfo
attribute_in code = record { name = code.name; body = code.body }

-- its classes are there, and its attributes are short
pub record IsKnownMethod (program : Program) (pool : List Constant) (m : MemberInfo) : Type 0 where
  pub whole : IsFaultyMethod pool m → ⊥
  pub news : (parts : CodeParts) → IsMethodCode pool m parts → AllByRecursion (IsKnownNew program) (code_in pool parts).instructions
  pub short : AllByRecursion (λ (a : AttributeInfo). length a.body < 2 ^ 28) m.attributes

pub record HasRewrittenBody (program : Program) (pool : List Constant) (first : ℕ) (m : MemberInfo) (code : CodeBody) : Type 0 where
  pub attribute : AttributeInfo
  pub one : filter (is_named pool (codes "Code")) m.attributes ≡ attribute ∷ []
  pub body : IsRewrittenBody program pool first m attribute (attribute_in code)
  pub fits : (parts : CodeParts) → IsMethodCode pool m parts → DoesNotFit first (groups_by program pool parts) parts → ⊥
  pub small : length (attribute_in code).body < 2 ^ 32

pub record HasLargeCode (program : Program) (pool : List Constant) (first : ℕ) (m : MemberInfo) : Type 0 where
  pub parts : CodeParts
  pub code : IsMethodCode pool m parts
  pub such : DoesNotFit first (groups_by program pool parts) parts

-- a method without code has no attribute left; of one that has some, the code is rewritten, or it doesn't fit
abbrev pub RewritesMethod : Program → List Constant → ℕ → MemberInfo → Result (Option CodeBody) CodeError → Type 0
RewritesMethod program pool first m (Ok None) = filter (is_named pool (codes "Code")) m.attributes ≡ []
RewritesMethod program pool first m (Ok (Some code)) = HasRewrittenBody program pool first m code
RewritesMethod program pool first m (Err errors.TooLarge) = HasLargeCode program pool first m
RewritesMethod program pool first m (Err errors.Memory) = ⊤
