use Rattle.std.proofs.Common.{◌≡◌, ◌++◌, ◌∙◌, IsFalse, codes, sym, subst}
use Rattle.dj_report.specs.declared.report.Violation.{Violation}
use Rattle.dj_report.specs.trusted.Lines.{file_line}
use Rattle.dj_report.specs.Lines.{Adds}
use Rattle.dj_report.proofs.Adding.{adds_nothing, adds_when, not_both}
use Rattle.dj_class_set.specs.RawEntry.{EntryLine}
use Rattle.dj_class_set.specs.trusted.RawRules.{runs_entry}
use Rattle.dj_class_set.proofs.raw_rules.add_entry_line.Goals as goal

pub returns-then-runs_entry : goal.returns-then-runs_entry
returns-then-runs_entry c =
    adds_nothing (EntryLine c.args.table.now c.args.entry.now) c.args.found.now.items
    (λ v line. not_both (runs_entry c.args.table.now c.args.entry.now) (sym c.runs_entry.ensures ∙ c.if-runs_entry.true) line.0)

pub returns : goal.returns
returns c =
    adds_when (IsFalse (runs_entry c.args.table.now c.args.entry.now)) (λ v. v ≡ file_line (c.args.entry.now ++ codes ".class") 20)
    c.args.found.now.items c.add_line.new.found.items (sym c.runs_entry.ensures ∙ c.if-runs_entry.false)
    (subst (λ (w : Violation). Adds (λ v. v ≡ w) c.args.found.now.items c.add_line.new.found.items) c.in_ok-line.ensures c.in_ok-add_line.ensures)
