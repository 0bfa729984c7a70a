use Rattle.std.proofs.Common.{List, ◌++◌, Contains, sym, subst}
use Rattle.dj_report.specs.declared.report.Violation.{Violation}
use Rattle.dj_report.specs.Lines.{Adds}
use Rattle.dj_report.proofs.Adding.{adds_members}
use Rattle.dj_report.proofs.lines.add_in_order.Goals as goal

pub returns : goal.returns
returns c =
    let IsAdded : List Violation → Type 0 = λ new. Adds (λ v. Contains c.args.lines.items v) c.args.found.now.items new in
    subst IsAdded (sym c.in_ok-append.ensures.items)
    (subst (λ (xs : List Violation). IsAdded (c.args.found.now.items ++ xs)) c.from-ordered.ensures
    (adds_members c.args.found.now.items c.args.lines.items c.in_order.result c.in_order.ensures.members))
