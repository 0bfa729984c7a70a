-- What silences the rules 17 to 19 of a set: the rules 1 to 6 do, and 7 to 16 don't.
use Rattle.std.proofs.Common.{◌≡◌, ℕ, ◌<◌, List, inl, inr, arith}
use Rattle.dj_edge.specs.trusted.Held.{File}
use Rattle.dj_names.specs.trusted.Library.{deterministic_library}
use Rattle.dj_class.specs.trusted.ClassFile.{ClassFile}
use Rattle.dj_report.specs.declared.report.Violation.{Violation}
use Rattle.dj_report.specs.trusted.Lines.{file_line}
use Rattle.dj_declarations.specs.trusted.Files.{declared_program}
use Rattle.dj_early_rules.specs.trusted.Rules.{IsEarlyLine}
use Rattle.dj_rules.specs.trusted.Lines.{IsLinkedLine}
use Rattle.dj_class_set.specs.trusted.Checked.{HoldsHierarchy, AreGoodFiles, IsLateLine}
use Rattle.dj_class_set.specs.Checked.{IsCheckLine}

module _ (files : List File) where
  -- lines of rule 7 alone
  natives_alone : ((v : Violation) → IsEarlyLine files v → v.rule ≡ 7) → HoldsHierarchy files
  natives_alone seven v is = let rule = seven v is in omega (arith, rule)

  -- so the rules 17 to 19 are judged, and their lines stand beside those of rule 7
  beside_natives : (classes : List ClassFile) (v w : Violation) → ((u : Violation) → IsEarlyLine files u → u.rule ≡ 7) → AreGoodFiles files classes → IsEarlyLine files v
      → IsLinkedLine (declared_program deterministic_library classes) files w → IsCheckLine files v × IsCheckLine files w
  beside_natives classes v w seven good native line = (inl native, inr (record { hierarchy = natives_alone seven; classes = classes; good = good; line = line }))

  -- a line of rule 6 silences them, and one of rule 1 too, whatever else is there
  hierarchy_silences : (p : List ℕ) (w : Violation) → IsEarlyLine files (file_line p 6) → IsLateLine deterministic_library files w → ⊥
  hierarchy_silences p w is late = let past = late.hierarchy (file_line p 6) is in absurd (omega (arith, past))

  malformed_silences : (p : List ℕ) (w : Violation) → IsEarlyLine files (file_line p 1) → IsLateLine deterministic_library files w → ⊥
  malformed_silences p w is late = let past = late.hierarchy (file_line p 1) is in absurd (omega (arith, past))

  -- no line of the rules 1 to 6 stands beside one of them
  held : (v w : Violation) → IsLateLine deterministic_library files w → IsEarlyLine files v → 6 < v.rule
  held v w late is = late.hierarchy v is
