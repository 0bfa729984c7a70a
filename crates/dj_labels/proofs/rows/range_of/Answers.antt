use Rattle.std.proofs.Common.{ℕ, Some, ap, ◌∙◌, arith}
use Rattle.dj_labels.proofs.RowLaws.{range_made}
use Rattle.dj_labels.proofs.rows.range_of.Goals as goal

pub returns-clause-found : goal.returns-clause-found
returns-clause-found c =
    range_made c.args.table.now.starts.items c.args.size c.in_ok-start.start c.in_ok-end.end c.in_ok-handler.handler c.args.row c.requires.rising (omega (arith, c.if-row.false))
    (c.in_ok-start.ensures.found ∙ ap (λ (n : ℕ). Some n) c.from.ensures)
    (c.in_ok-end.ensures.found ∙ ap (λ (n : ℕ). Some n) c.from-3.ensures)
    (c.in_ok-handler.ensures.found ∙ ap (λ (n : ℕ). Some n) c.from-2.ensures)
