use Rattle.std.proofs.Common.{◌≡◌, ◌++◌, ℕ, List, Some, ap, subst, ◌∙◌}
use Rattle.dj_report.specs.declared.report.Violation.{Violation}
use Rattle.dj_report.specs.Lines.{Adds}
use Rattle.dj_straight.specs.trusted.Methods.{straight_descriptor}
use Rattle.dj_straight.specs.Methods.{method_view}
use Rattle.dj_class_set.specs.Shaped.{shape_line}
use Rattle.dj_class_set.proofs.run_rules.add_shape_fault.Goals as goal

pub returns : goal.returns
returns c =
    let path = c.in_ok-path.ensures ∙ c.as_bytes.ensures.value in
    let name = c.in_ok-member.ensures ∙ c.as_slice.ensures in
    let member : c.extend.new.self ≡ c.args.method.now.name ++ straight_descriptor =
    c.in_ok-extend.ensures.ok ∙ ap (λ (x : List ℕ). x ++ straight_descriptor) name in
    let line : Violation = record { path = c.in_ok-path.path; member = c.extend.new.self; number = Some c.args.number; rule = 19 } in
    let same : line ≡ shape_line c.args.path.now (method_view c.args.method.now) (Some c.args.number) =
    λ i. record { path = path i; member = member i; number = Some c.args.number; rule = 19 } in
    subst (λ (w : Violation). Adds (λ v. v ≡ w) c.args.found.now.items c.add_line.new.found.items) same c.in_ok-add_line.ensures
