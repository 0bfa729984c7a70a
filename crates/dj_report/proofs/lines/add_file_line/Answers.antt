use Rattle.std.proofs.Common.{◌≡◌, None, subst, ◌∙◌}
use Rattle.dj_report.specs.declared.report.Violation.{Violation}
use Rattle.dj_report.specs.trusted.Lines.{file_line}
use Rattle.dj_report.specs.Lines.{Adds}
use Rattle.dj_report.proofs.Adding.{on_ok}
use Rattle.dj_report.proofs.lines.add_file_line.Goals as goal

pub returns : goal.returns
returns c =
    let path = c.in_ok-path.ensures ∙ c.as_bytes.ensures.value in
    let line : Violation = record { path = c.in_ok-path.path; member = c.new-member.result; number = None; rule = c.args.rule } in
    let same : line ≡ file_line c.args.path.now c.args.rule =
    λ i. record { path = path i; member = c.new-member.ensures i; number = None; rule = c.args.rule } in
    on_ok c.add_line.result (subst (λ (w : Violation). Adds (λ v. v ≡ w) c.args.found.now.items c.add_line.new.found.items) same) c.add_line.ensures
