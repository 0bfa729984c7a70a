-- The rules 1 to 16, each as a condition on a possible line of the report. A file is its path within the folder, with its
-- bytes. A file that violates rule 1 has no other line.
use Rattle.std.specs.Prelude.{◌≡◌, ◌≢◌, ℕ, ◌⊎◌, List, Option, None, Some, slice_get, Contains}
use Rattle.dj_edge.specs.trusted.Held.{File}
use Rattle.dj_class.specs.trusted.ClassFile.{MemberInfo, ClassFile}
use Rattle.dj_report.specs.declared.report.Violation.{Violation}
use Rattle.dj_report.specs.trusted.Lines.{file_line}
use Rattle.dj_file_rules.specs.trusted.Violations.{member_text, this_name, IsClassLine}
use Rattle.dj_hierarchy_rule.specs.trusted.Hierarchy.{ViolatesHierarchy}
use Rattle.dj_early_rules.specs.trusted.Malformed.{IsRefused, IsGood}
use Rattle.dj_early_rules.specs.trusted.Heads.{head_of, StandsAmong, HasRepeats}
use Rattle.dj_early_rules.specs.trusted.Classes.{IsReserved}
use Rattle.dj_early_rules.specs.trusted.Members.{HasFloatConstant, IsFloatField}
use Rattle.dj_early_rules.specs.trusted.Methods.{MethodViolates}

-- ---- lines of one class file

-- a line on a member, as a whole or at an instruction
abbrev pub line_at : List ℕ → List ℕ → Option ℕ → ℕ → Violation
line_at path member number rule = record { path = path; member = member; number = number; rule = rule }

-- a line on one of the members that violates the rule, as a whole or at the instruction of this number
pub record IsMemberLine (Violates : MemberInfo → Option ℕ → ℕ → Type 0) (members : List MemberInfo) (path : List ℕ) (c : ClassFile) (v : Violation) : Type 0 where
  pub member : MemberInfo
  pub own : Contains members member
  pub number : Option ℕ
  pub rule : ℕ
  pub such : Violates member number rule
  pub line : v ≡ line_at path (member_text c.pool member) number rule

-- rule 12, for a field
abbrev pub FieldViolates : ClassFile → MemberInfo → Option ℕ → ℕ → Type 0
FieldViolates c f number rule = IsFloatField c.pool f × (number ≡ None) × (rule ≡ 12)

-- rule 4 on the class's name, and rule 12 on the constants of the pool
abbrev pub IsNamingLine : List ℕ → ClassFile → Violation → Type 0
IsNamingLine path c v =
    (IsReserved (this_name c) × (v ≡ file_line path 4))
    ⊎ (HasFloatConstant c × (v ≡ file_line path 12))

-- the lines of a class file by itself: rules 2, 3, 7 and 8; rules 4 and 12; and those of its fields and of its methods
abbrev pub IsOwnLine : List ℕ → ClassFile → Violation → Type 0
IsOwnLine path c v =
    IsClassLine path c v
    ⊎ (IsNamingLine path c v
    ⊎ (IsMemberLine (FieldViolates c) c.fields path c v
    ⊎ IsMemberLine (MethodViolates c) c.methods path c v))

-- ---- lines of files

-- a line of the file by itself: rule 1, MALFORMED, or those of a class file
abbrev pub IsLoneLine : File → Violation → Type 0
IsLoneLine file v =
    (IsRefused file.1 × (v ≡ file_line file.0 1))
    ⊎ ((c : ClassFile) × IsGood file.1 c × IsOwnLine file.0 c v)

-- a line of one of the files by itself
abbrev pub IsAmongLoneLines : List File → Violation → Type 0
IsAmongLoneLines files v = (file : File) × Contains files file × IsLoneLine file v

-- another file of the list is a class file with the same class name
pub record HasDouble (files : List File) (place : ℕ) (c : ClassFile) : Type 0 where
  pub other : ℕ
  pub apart : other ≢ place
  pub file : File
  pub stands : slice_get files other ≡ Some file
  pub class : ClassFile
  pub good : IsGood file.1 class
  pub same : this_name class ≡ this_name c

-- rule 5, DUPLICATE: a line for each of several files with one class name; a file that violates rule 1 has none
pub record IsDuplicateLine (files : List File) (v : Violation) : Type 0 where
  pub place : ℕ
  pub file : File
  pub stands : slice_get files place ≡ Some file
  pub class : ClassFile
  pub good : IsGood file.1 class
  pub double : HasDouble files place class
  pub line : v ≡ file_line file.0 5

-- rule 6, HIERARCHY, for one of the files: its superclass or interfaces, or two members that are declared alike
pub record IsHierarchyLine (files : List File) (v : Violation) : Type 0 where
  pub file : File
  pub own : Contains files file
  pub class : ClassFile
  pub good : IsGood file.1 class
  pub such : ViolatesHierarchy (StandsAmong files) (head_of class) ⊎ HasRepeats class
  pub line : v ≡ file_line file.0 6

-- a line of one of these rules for one of the files
abbrev pub IsEarlyLine : List File → Violation → Type 0
IsEarlyLine files v = IsAmongLoneLines files v ⊎ (IsDuplicateLine files v ⊎ IsHierarchyLine files v)
