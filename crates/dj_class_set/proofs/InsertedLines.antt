-- Violations put in order, where a list has all that meet a condition.
use Rattle.std.proofs.Common.{List}
use Rattle.dj_report.specs.declared.report.Violation.{Violation}
use Rattle.dj_report.specs.trusted.Lines.{AreExactly}
use Rattle.dj_report.proofs.Inserted.{ordered}
use Rattle.dj_class_set.proofs.Classical.{NotNot, so, IsFinite}

-- all violations of which a condition holds stand in order, where a list has them
pub finite_in_order : (P : Violation → Type 0) → IsFinite P → NotNot ((lines : List Violation) × AreExactly P lines)
finite_in_order P finite = so finite (λ l.
    let o = ordered l.0 in
    (o.lines, record { in_order = o.in_order; all = λ v. (λ m. (l.1 v).0 ((o.members v).0 m), λ p. (o.members v).1 ((l.1 v).1 p)) }))
