use Rattle.std.proofs.Common.{◌≡◌, ◌<◌, List, ℕ, length, subst, sym}
use Rattle.std.specs.Global.{Vec}
use Rattle.dj_resolution.specs.Numbers.{AreInside, lists_of}
use Rattle.dj_resolution.specs.Chained.{field_row, row_at}
use Rattle.dj_resolution.proofs.Chained.{lists_ok, rows_inside}
use Rattle.dj_resolution.proofs.Listed.{field_row_below}
use Rattle.dj_resolution.proofs.fields.field_chains.Goals as goal

pub of-requires-clause-rows : goal.of-requires-clause-rows
of-requires-clause-rows c =
    subst (λ (rows : List (Vec ℕ)). AreInside (length c.args.table.now) (lists_of rows)) (sym c.deref.ensures.value)
    (rows_inside c.args.table.now (field_row c.args.table.now) (lists_of c.in_ok-rows.rows.items) c.in_ok-rows.ensures (field_row_below c.args.table.now))

pub returns : goal.returns
returns c =
    lists_ok c.of.result c.args.table.now (row_at (lists_of c.deref.result.now)) (field_row c.args.table.now)
    (subst (λ (rows : List (Vec ℕ)). (k : ℕ) → k < length c.args.table.now → row_at (lists_of rows) k ≡ field_row c.args.table.now k) (sym c.deref.ensures.value) (let rows = c.in_ok-rows.ensures in rows.each))
    c.of.ensures
