use Rattle.std.proofs.Common.{take}
use Rattle.dj_class.specs.Members.{member_of}
use Rattle.dj_class.specs.Views.{class_of}
use Rattle.dj_report.specs.Lines.{Gains}
use Rattle.dj_report.proofs.Adding.{IsAmong}
use Rattle.dj_early_rules.specs.trusted.Rules.{FieldViolates}
use Rattle.dj_early_rules.specs.Marks.{MarksOf, names_in}
use Rattle.dj_early_rules.proofs.methods.add_field_marks.Given as goal

-- the marks of the fields so far
abbrev pub invariant-loop-field : goal.invariant-loop-field
invariant-loop-field l =
    Gains (IsAmong (λ f. MarksOf (names_in l.texts (member_of f)) (FieldViolates (class_of l.view) (member_of f))) (take l.field-index l.field-items)) l.initial.marks.items l.marks.items
