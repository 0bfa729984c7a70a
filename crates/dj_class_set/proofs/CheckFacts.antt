-- What `check` judges, written out: the rules 1 to 16, and the rules 17 to 19 of the program of the files and the deterministic library.
use Rattle.std.proofs.Common.{◌≡◌, ◌≢◌, ◌<◌, ◌⊎◌, ◌↔◌, List, [], Some, None, inl, inr}
use Rattle.dj_edge.specs.trusted.Held.{File}
use Rattle.dj_names.specs.trusted.Library.{deterministic_library}
use Rattle.dj_class.specs.trusted.ClassFile.{ClassFile}
use Rattle.dj_report.specs.trusted.Stages.{Stage}
use Rattle.dj_report.specs.declared.report.Report.{Report}
use Rattle.dj_report.specs.declared.report.Report.TheVariants as reports
use Rattle.dj_report.specs.declared.report.Violation.{Violation}
use Rattle.dj_report.specs.trusted.Lines.{AreExactly}
use Rattle.dj_report.proofs.Adding.{exactly_same}
use Rattle.dj_early_rules.specs.trusted.Rules.{IsEarlyLine}
use Rattle.dj_declarations.specs.trusted.Files.{declared_program}
use Rattle.dj_rules.specs.trusted.Lines.{IsLinkedLine}
use Rattle.dj_class_set.specs.trusted.Checked.{AreGoodFiles, IsLateLine, AreCheckViolations}
use Rattle.dj_class_set.specs.Checked.{IsCheckLine}
use Rattle.dj_class_set.specs.trusted.Judging.{JudgesSet}

-- a line of the rules 17 to 19: none of the rules 1 to 6 is violated, and the program is that of all classes and the deterministic library
abbrev IsLate : List File → Violation → Type 0
IsLate files v =
    ((w : Violation) → IsEarlyLine files w → 6 < w.rule)
    × ((classes : List ClassFile) × AreGoodFiles files classes × IsLinkedLine (declared_program deterministic_library classes) files v)

abbrev IsLine : List File → Violation → Type 0
IsLine files v = IsEarlyLine files v ⊎ IsLate files v

abbrev Judges : List File → Stage Report
Judges files (Some report) = (violations : List Violation) × (report ≡ reports.Rejected violations) × AreExactly (IsLine files) violations × (violations ≢ [])
Judges files None = AreExactly (IsLine files) []

module _ (files : List File) where
  late-is : (v : Violation) → IsLateLine deterministic_library files v ↔ IsLate files v
  late-is v = (
    λ late. (late.hierarchy, (late.classes, late.good, late.line)),
    λ (hierarchy, (classes, good, line)). record { hierarchy = hierarchy; classes = classes; good = good; line = line },
  )

  line-is : (v : Violation) → IsCheckLine files v ↔ IsLine files v
  line-is v = (
    λ any. elim any [ inl early ↦ inl early | inr late ↦ inr ((late-is v).0 late) ],
    λ any. elim any [ inl early ↦ inl early | inr late ↦ inr ((late-is v).1 late) ],
  )

  line-back : (v : Violation) → IsLine files v ↔ IsCheckLine files v
  line-back v = ((line-is v).1, (line-is v).0)

  violations-are : (violations : List Violation) → AreCheckViolations files violations ↔ AreExactly (IsLine files) violations
  violations-are violations = (
    exactly_same (IsCheckLine files) (IsLine files) violations line-is,
    exactly_same (IsLine files) (IsCheckLine files) violations line-back,
  )

  judges-rejected : (report : Report) → JudgesSet files (Some report) ↔ Judges files (Some report)
  judges-rejected report = (
    λ (violations, is, are, some). (violations, is, (violations-are violations).0 are, some),
    λ (violations, is, are, some). (violations, is, (violations-are violations).1 are, some),
  )

  judges-none : JudgesSet files None ↔ Judges files None
  judges-none = violations-are []
