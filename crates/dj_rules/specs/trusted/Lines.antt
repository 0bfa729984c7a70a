-- The rules that are judged where no file of the set violates one of the rules 1 to 6: 17 and 18, and 19, SHAPE.
use Rattle.std.specs.Prelude.{◌≡◌, ℕ, ◌⊎◌, List, Option, Contains}
use Rattle.dj_edge.specs.trusted.Held.{File}
use Rattle.dj_class.specs.trusted.ClassFile.{MemberInfo, ClassFile}
use Rattle.dj_report.specs.declared.report.Violation.{Violation}
use Rattle.dj_model.specs.trusted.Program.{Program}
use Rattle.dj_file_rules.specs.trusted.Violations.{IsNative, IsFinalizer}
use Rattle.dj_early_rules.specs.trusted.Malformed.{IsGood}
use Rattle.dj_early_rules.specs.trusted.Methods.{MethodViolates}
use Rattle.dj_early_rules.specs.trusted.Rules.{IsMemberLine}
use Rattle.dj_link_rules.specs.trusted.Lines.{MethodLinkViolates, IsLinkLine}
use Rattle.dj_shape_rule.specs.trusted.Rule.{LacksShape}

-- the method violates none of the rules 7 to 18
pub record IsUnreported (program : Program) (c : ClassFile) (m : MemberInfo) : Type 0 where
  pub native : IsNative m → ⊥
  pub finalizer : IsFinalizer c.pool m → ⊥
  pub early : (number : Option ℕ) (rule : ℕ) → MethodViolates c m number rule → ⊥
  pub linked : (number : Option ℕ) (rule : ℕ) → MethodLinkViolates program c m number rule → ⊥

-- rule 19, for a method that violates none of the rules 7 to 18
pub record MethodShapeViolates (program : Program) (c : ClassFile) (m : MemberInfo) (number : Option ℕ) (rule : ℕ) : Type 0 where
  pub unreported : IsUnreported program c m
  pub lacks : LacksShape c.pool m number
  pub rule_is : rule ≡ 19

-- a line of one file that doesn't violate rule 1
abbrev pub IsFileShapeLine : Program → File → Violation → Type 0
IsFileShapeLine program file v = (c : ClassFile) × IsGood file.1 c × IsMemberLine (MethodShapeViolates program c) c.methods file.0 c v

abbrev pub IsShapeLine : Program → List File → Violation → Type 0
IsShapeLine program files v = (file : File) × Contains files file × IsFileShapeLine program file v

-- a line of the rules 17 to 19, for one of the files; program is that of the set
abbrev pub IsLinkedLine : Program → List File → Violation → Type 0
IsLinkedLine program files v = IsLinkLine program files v ⊎ IsShapeLine program files v
