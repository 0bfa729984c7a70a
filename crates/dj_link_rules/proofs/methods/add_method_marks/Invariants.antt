use Rattle.std.proofs.Common.{take}
use Rattle.dj_class.specs.Members.{member_of}
use Rattle.dj_class.specs.Views.{class_of}
use Rattle.dj_report.specs.Lines.{Gains}
use Rattle.dj_report.proofs.Adding.{IsAmong}
use Rattle.dj_early_rules.specs.Marks.{MarksOf, names_in}
use Rattle.dj_link_rules.specs.trusted.Lines.{MethodLinkViolates}
use Rattle.dj_link_rules.proofs.methods.add_method_marks.Given as goal

-- the marks of the methods so far
abbrev pub invariant-loop-method : goal.invariant-loop-method
invariant-loop-method l = Gains (IsAmong (λ m. MarksOf (names_in l.texts (member_of m)) (MethodLinkViolates l.known.table.now (class_of l.view) (member_of m))) (take l.method-index l.method-items)) l.initial.marks.items l.marks.items
