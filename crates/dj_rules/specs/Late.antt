-- Used by the code alone: the rules 17 to 19 on methods, where what is known of their class is borrowed.
use Rattle.std.specs.Prelude.{◌≡◌, ℕ, ⊤, ◌⊎◌, List, [], Option, Some, None}
use Rattle.std.specs.Borrow.{Bor}
use Rattle.dj_edge.specs.trusted.Held.{File}
use Rattle.dj_pool.specs.trusted.Pool.{Constant}
use Rattle.dj_class.specs.trusted.ClassFile.{MemberInfo, ClassFile}
use Rattle.dj_report.specs.declared.report.Violation.{Violation}
use Rattle.dj_report.specs.Lines.{Gains}
use Rattle.dj_file_rules.specs.trusted.Violations.{this_name}
use Rattle.dj_model.specs.trusted.Program.{Program}
use Rattle.dj_early_rules.specs.Marks.{MarksOf}
use Rattle.dj_early_rules.specs.trusted.Methods.{MethodViolates}
use Rattle.dj_link_rules.specs.declared.known.Known.{Known}
use Rattle.dj_link_rules.specs.Constants.{IsDirectoryOf}
use Rattle.dj_link_rules.specs.Known.{IsKnown, AreUnmakeable}
use Rattle.dj_link_rules.specs.trusted.Lines.{MethodLinkViolates, IsFileLinkLine}
use Rattle.dj_shape_rule.specs.declared.judge.ShapeFault.{ShapeFault}
use Rattle.dj_shape_rule.specs.trusted.Rule.{LacksShape}
use Rattle.dj_rules.specs.declared.lent.Lent.{Lent}
use Rattle.dj_rules.specs.declared.lent.Marks.{Marks}
use Rattle.dj_rules.specs.trusted.Lines.{MethodShapeViolates, IsFileShapeLine}

-- ---- what is borrowed

-- what is known of a class is borrowed, and is of this program
abbrev pub HasKnown : Option (Bor Known) → Program → Type 0
HasKnown None program = ⊥
HasKnown (Some known) program = known.now.table.now ≡ program

-- the same, and it is right
abbrev pub IsKnownOf : ClassFile → Option (Bor Known) → Type 0
IsKnownOf c None = ⊤
IsKnownOf c (Some known) = IsKnown (this_name c) c.pool known.now

-- classes are borrowed, and these are their program
abbrev pub HasLent : Option Lent → Program → Type 0
HasLent None program = ⊥
HasLent (Some lent) program = lent.linker.now.program ≡ program

pub record AreLent (lent : Lent) : Type 0 where
  pub plain : lent.linker.now.prefix ≡ []
  pub same : IsDirectoryOf lent.linker.now.program lent.directory
  pub unmakeable : AreUnmakeable lent.linker.now.program lent.unmakeable.now

abbrev pub IsReady : Option Lent → Type 0
IsReady None = ⊤
IsReady (Some lent) = AreLent lent

-- ---- what is violated

-- rule 19, for a method that violates none of the rules 7 to 18
abbrev pub ShapeViolates : List Constant → MemberInfo → Option ℕ → ℕ → Type 0
ShapeViolates pool m number rule = LacksShape pool m number × (rule ≡ 19)

-- the number of the fault of the method's code, or none where it has no fault
abbrev pub IsFaultOf : List Constant → MemberInfo → Option ShapeFault → Type 0
IsFaultOf pool m None = (number : Option ℕ) → LacksShape pool m number → ⊥
IsFaultOf pool m (Some fault) = LacksShape pool m fault.number × ((number : Option ℕ) → LacksShape pool m number → number ≡ fault.number)

-- rule 19, at this fault
abbrev pub FaultViolates : Option ShapeFault → Option ℕ → ℕ → Type 0
FaultViolates None number rule = ⊥
FaultViolates (Some fault) number rule = (number ≡ fault.number) × (rule ≡ 19)

abbrev pub MethodLateViolates : Program → ClassFile → MemberInfo → Option ℕ → ℕ → Type 0
MethodLateViolates program c m number rule = MethodLinkViolates program c m number rule ⊎ MethodShapeViolates program c m number rule

abbrev pub IsFileLateLine : Program → File → Violation → Type 0
IsFileLateLine program file v = IsFileLinkLine program file v ⊎ IsFileShapeLine program file v

-- the marks of a method with these names
pub record AreReportedMarks (c : ClassFile) (Has : Program → Type 0) (names : ℕ × ℕ) (m : MemberInfo) (marks : Marks) : Type 0 where
  pub early : Gains (MarksOf names (MethodViolates c m)) [] marks.early.items
  pub late : (program : Program) → Has program → Gains (MarksOf names (MethodLateViolates program c m)) [] marks.late.items
