use Rattle.std.proofs.Common.{◌≡◌, subst, ◌∙◌}
use Rattle.dj_report.specs.declared.report.Violation.{Violation}
use Rattle.dj_report.specs.Lines.{Adds}
use Rattle.dj_file_rules.specs.Lines.{pair_text}
use Rattle.dj_early_rules.specs.trusted.Rules.{line_at}
use Rattle.dj_early_rules.proofs.lines.add_mark_line.Goals as goal

pub returns : goal.returns
returns c =
    let path = c.in_ok-path.ensures ∙ c.as_bytes.ensures.value in
    let place = c.args.mark.place in
    let line : Violation = record { path = c.in_ok-path.path; member = c.in_ok-member.member; number = place.number; rule = c.args.mark.rule } in
    let same : line ≡ line_at c.args.path.now (pair_text c.args.pool.now (place.name, place.desc)) place.number c.args.mark.rule =
    λ i. record { path = path i; member = c.in_ok-member.ensures i; number = place.number; rule = c.args.mark.rule } in
    subst (λ (w : Violation). Adds (λ v. v ≡ w) c.args.found.now.items c.add_line.new.found.items) same c.in_ok-add_line.ensures
