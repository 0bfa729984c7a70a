-- Used by the code alone: what is kept of files, for the rules that look at all of them.
use Rattle.std.specs.Prelude.{◌≡◌, ◌↔◌, ℕ, ◌<◌, ◌⊎◌, Bool, IsTrue, List, length, Contains, Some, slice_get}
use Rattle.dj_class.specs.trusted.ClassFile.{ClassFile}
use Rattle.dj_report.specs.declared.report.Violation.{Violation}
use Rattle.dj_report.specs.declared.report.PathFile.{PathFile}
use Rattle.dj_report.specs.trusted.Lines.{file_line}
use Rattle.dj_library.specs.trusted.Heads.{Head}
use Rattle.dj_hierarchy_rule.specs.declared.head.ClassHead.{ClassHead}
use Rattle.dj_hierarchy_rule.specs.trusted.Hierarchy.{ViolatesHierarchy}
use Rattle.dj_hierarchy_rule.specs.Hierarchy.{Stands}
use Rattle.dj_early_rules.specs.declared.hierarchy.Owner.{Owner}
use Rattle.dj_early_rules.specs.trusted.Malformed.{IsGood}
use Rattle.dj_early_rules.specs.trusted.Heads.{HasRepeats}
use Rattle.dj_early_rules.specs.Gathered.{IsHeadOf}
use Rattle.dj_early_rules.specs.Doubles.{IsBelow}

-- ---- heads and their files

-- the file at the place is marked or repeats a member, and the line is that of the file
pub record IsMarkedAt (owners : List Owner) (marks : List Bool) (v : Violation) (place : ℕ) : Type 0 where
  pub owner : Owner
  pub own : slice_get owners place ≡ Some owner
  pub mark : Bool
  pub marked : slice_get marks place ≡ Some mark
  pub such : IsTrue mark ⊎ IsTrue owner.repeats
  pub line : v ≡ file_line owner.path.now 6

-- one of the first n files is such
abbrev pub IsMarkedLine : ℕ → List Owner → List Bool → Violation → Type 0
IsMarkedLine count owners marks v = IsBelow count (IsMarkedAt owners marks v)

-- the file of a head that violates the rule, or one that repeats a member
pub record IsOwnersLine (heads : List Head) (owners : List Owner) (v : Violation) : Type 0 where
  pub place : ℕ
  pub head : Head
  pub stands : slice_get heads place ≡ Some head
  pub owner : Owner
  pub own : slice_get owners place ≡ Some owner
  pub such : ViolatesHierarchy (Stands heads) head ⊎ IsTrue owner.repeats
  pub line : v ≡ file_line owner.path.now 6

-- the file is this class file, and its head and its owner are kept
pub record IsOwned (file : PathFile) (c : ClassFile) (head : ClassHead) (owner : Owner) : Type 0 where
  pub good : IsGood file.bytes.now c
  pub path : owner.path.now ≡ file.path.now
  pub head_is : IsHeadOf c head
  pub reported : IsTrue owner.repeats ↔ HasRepeats c

-- it is at this place
pub record OwnsAt (heads : List ClassHead) (owners : List Owner) (file : PathFile) (c : ClassFile) (place : ℕ) : Type 0 where
  pub head : ClassHead
  pub stands : slice_get heads place ≡ Some head
  pub owner : Owner
  pub own : slice_get owners place ≡ Some owner
  pub is : IsOwned file c head owner

-- one of the files is at the place
pub record IsOwnedAt (files : List PathFile) (heads : List ClassHead) (owners : List Owner) (place : ℕ) : Type 0 where
  pub file : PathFile
  pub among : Contains files file
  pub class : ClassFile
  pub owns : OwnsAt heads owners file class place

-- the heads are those of the files without rule 1, each beside its file
pub record AreOwned (files : List PathFile) (heads : List ClassHead) (owners : List Owner) : Type 0 where
  pub all : length owners ≡ length heads
  pub each : (place : ℕ) → place < length heads → IsOwnedAt files heads owners place
  pub whole : (file : PathFile) (c : ClassFile) → Contains files file → IsGood file.bytes.now c → (place : ℕ) × OwnsAt heads owners file c place
