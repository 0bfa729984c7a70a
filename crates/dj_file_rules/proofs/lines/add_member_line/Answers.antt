use Rattle.std.proofs.Common.{◌≡◌, None, subst, ◌∙◌}
use Rattle.dj_report.specs.declared.report.Violation.{Violation}
use Rattle.dj_report.specs.trusted.Lines.{member_line}
use Rattle.dj_report.specs.Lines.{Adds}
use Rattle.dj_file_rules.specs.Lines.{pair_text}
use Rattle.dj_file_rules.proofs.lines.add_member_line.Goals as goal

pub returns : goal.returns
returns c =
    let path = c.in_ok-path.ensures ∙ c.as_bytes.ensures.value in
    let line : Violation = record { path = c.in_ok-path.path; member = c.in_ok-member.member; number = None; rule = c.args.lines.now.rule } in
    let same : line ≡ member_line c.args.lines.now.path.now (pair_text c.args.lines.now.pool.now c.args.pair) c.args.lines.now.rule =
    λ i. record { path = path i; member = c.in_ok-member.ensures i; number = None; rule = c.args.lines.now.rule } in
    subst (λ (w : Violation). Adds (λ v. v ≡ w) c.args.found.now.items c.add_line.new.found.items) same c.in_ok-add_line.ensures
