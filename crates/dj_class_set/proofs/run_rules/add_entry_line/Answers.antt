use Rattle.std.proofs.Common.{◌≡◌, ◌++◌, ℕ, List, None, IsFalse, codes, ap, sym, subst, ◌∙◌}
use Rattle.dj_report.specs.declared.report.Violation.{Violation}
use Rattle.dj_report.specs.trusted.Lines.{file_line}
use Rattle.dj_report.specs.Lines.{Adds}
use Rattle.dj_report.proofs.Adding.{adds_when}
use Rattle.dj_straight.specs.Methods.{program_view}
use Rattle.dj_class_set.specs.trusted.Entry.{has_entry}
use Rattle.dj_class_set.proofs.run_rules.add_entry_line.Goals as goal

pub returns : goal.returns
returns c =
    let path : c.extend.new.self ≡ c.args.entry.now ++ codes ".class" =
    c.in_ok-extend.ensures.ok ∙ ap (λ (x : List ℕ). x ++ codes ".class") c.in_ok-path.ensures in
    let line : Violation = record { path = c.extend.new.self; member = c.new-member.result; number = None; rule = 20 } in
    let same : line ≡ file_line (c.args.entry.now ++ codes ".class") 20 =
    λ i. record { path = path i; member = c.new-member.ensures i; number = None; rule = 20 } in
    adds_when (IsFalse (has_entry (program_view c.args.class.now) c.args.entry.now)) (λ v. v ≡ file_line (c.args.entry.now ++ codes ".class") 20)
    c.args.found.now.items c.add_line.new.found.items (sym c.has_entry.ensures ∙ c.if-has_entry.false)
    (subst (λ (w : Violation). Adds (λ v. v ≡ w) c.args.found.now.items c.add_line.new.found.items) same c.in_ok-add_line.ensures)
