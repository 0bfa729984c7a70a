-- The rules 17 and 18, each as a condition on a possible line of the report.
use Rattle.std.specs.Prelude.{◌≡◌, ℕ, ◌⊎◌, List, Option, Some, IsSomeAnd, slice_get, Contains}
use Rattle.dj_edge.specs.trusted.Held.{File}
use Rattle.dj_names.specs.trusted.Types.{Name}
use Rattle.dj_ops.specs.declared.instruction.Instr.{Instr}
use Rattle.dj_pool.specs.trusted.Pool.{Constant, constant_at}
use Rattle.dj_class.specs.trusted.ClassFile.{MemberInfo, ClassFile}
use Rattle.dj_labels.specs.declared.labelled.Protected.{Protected}
use Rattle.dj_labels.specs.declared.labelled.Labelled.{Labelled}
use Rattle.dj_report.specs.declared.report.Violation.{Violation}
use Rattle.dj_model.specs.trusted.Program.{Program}
use Rattle.dj_file_rules.specs.trusted.Violations.{this_name}
use Rattle.dj_early_rules.specs.trusted.Malformed.{IsGood}
use Rattle.dj_early_rules.specs.trusted.Code.{IsLabelledOf}
use Rattle.dj_early_rules.specs.trusted.Methods.{InstrViolates, CatchesError}
use Rattle.dj_early_rules.specs.trusted.Rules.{IsMemberLine}
use Rattle.dj_link_rules.specs.trusted.Foreign.{IsForeign, IsForeignConstant}
use Rattle.dj_link_rules.specs.trusted.Unlinked.{IsUnlinked, IsUnlinkedCatch}

-- rule 17 where the first condition is met; else rule 18 where the second is. A line of rule 17 hides that of rule 18
abbrev pub IsFirstOf : Type 0 → Type 0 → ℕ → Type 0
IsFirstOf Foreign Unlinked rule = (Foreign × (rule ≡ 17)) ⊎ ((Foreign → ⊥) × Unlinked × (rule ≡ 18))

-- ---- instructions

-- the instruction violates none of the rules 9 to 15
abbrev pub IsUnreported : List Constant → Instr → Type 0
IsUnreported pool instr = (rule : ℕ) → InstrViolates pool instr rule → ⊥

abbrev pub LinkViolates : Program → Name → List Constant → Instr → ℕ → Type 0
LinkViolates program own pool instr rule =
    IsUnreported pool instr × IsFirstOf (IsForeign program pool instr) (IsUnlinked program own pool instr) rule

-- rule 17 or 18, for the instruction of this number in a method of the class `own`
pub record LinkViolatesAt (program : Program) (own : Name) (pool : List Constant) (labelled : Labelled) (number rule : ℕ) : Type 0 where
  pub instr : Instr
  pub stands : slice_get labelled.code number ≡ Some instr
  pub such : LinkViolates program own pool instr rule

-- ---- handlers

-- rule 17 or 18, for the type of a handler's row that doesn't violate rule 11
abbrev pub CatchViolates : Program → List Constant → ℕ → ℕ → Type 0
CatchViolates program pool index rule =
    (CatchesError pool index → ⊥)
    × IsFirstOf (IsSomeAnd (constant_at pool index) (IsForeignConstant program pool)) (IsUnlinkedCatch program pool index) rule

-- a handler whose first instruction has this number; each row of the table counts as a handler of its own
pub record HandlerLinkViolates (program : Program) (pool : List Constant) (labelled : Labelled) (number rule : ℕ) : Type 0 where
  pub range : Protected
  pub own : Contains labelled.ranges range
  pub begins : number ≡ range.handler
  pub such : CatchViolates program pool range.catch_type rule

-- ---- methods and files

abbrev pub CodeLinkViolates : Program → Name → List Constant → Labelled → ℕ → ℕ → Type 0
CodeLinkViolates program own pool labelled number rule =
    LinkViolatesAt program own pool labelled number rule ⊎ HandlerLinkViolates program pool labelled number rule

-- a method of the class file, at one of its instructions
pub record MethodLinkViolates (program : Program) (c : ClassFile) (m : MemberInfo) (number : Option ℕ) (rule : ℕ) : Type 0 where
  pub labelled : Labelled
  pub code : IsLabelledOf c.pool m labelled
  pub at : ℕ
  pub number_is : number ≡ Some at
  pub such : CodeLinkViolates program (this_name c) c.pool labelled at rule

-- a line of one file that doesn't violate rule 1
abbrev pub IsFileLinkLine : Program → File → Violation → Type 0
IsFileLinkLine program file v = (c : ClassFile) × IsGood file.1 c × IsMemberLine (MethodLinkViolates program c) c.methods file.0 c v

-- a line of the rules 17 and 18, for one of the files; program is that of the set
abbrev pub IsLinkLine : Program → List File → Violation → Type 0
IsLinkLine program files v = (file : File) × Contains files file × IsFileLinkLine program file v
