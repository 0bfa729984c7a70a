use Rattle.std.proofs.Common.{List, ℕ, ◌≡◌, IfOk, Option, ap, ◌∙◌, subst}
use Rattle.dj_class_table.specs.ClassRows.{numbers_at}
use Rattle.dj_class_table.proofs.Listed.{numbers_listed}
use Rattle.dj_class_table.proofs.rows.numbers_in.Goals as goal

pub returns : goal.returns
returns c =
    let names = c.interfaces.result.0.now in
    let places = c.interfaces.result.1.now in
    let rows = c.args.rows.now in
    let is = ap (λ (numbers : List (Option ℕ)). numbers_at numbers places) (c.deref.ensures.value ∙ c.in_ok-numbers.ensures) ∙ numbers_listed rows names places c.args.row.now.interfaces c.interfaces.ensures in
    subst (λ (listed : List ℕ). IfOk c.numbers_at.result (λ numbers. numbers ≡ listed)) is c.numbers_at.ensures
