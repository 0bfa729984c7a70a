use Rattle.std.proofs.Common.{◌≡◌, ◌≤◌, ap, sym, ◌∙◌, arith, List}
use Rattle.dj_names.specs.declared.descriptor.Ty.{Ty}
use Rattle.dj_names.specs.trusted.Types.{Name}
use Rattle.dj_image.specs.ArrayRows.{type_lent, most_at}
use Rattle.dj_image.proofs.RowFacts.{keyed_now, rows_stay, rows_more, at_most}
use Rattle.dj_image.proofs.arrays.add_rows.Goals as goal

pub returns-then-dims-most_dims-clause-rows : goal.returns-then-dims-most_dims-clause-rows
returns-then-dims-most_dims-clause-rows c = λ wholes are.
    let most : most_at c.args.rows.now c.as_slice.result.now ≡ most_at c.args.rows.now c.in_ok-text.text.items = ap (λ (text : Name). most_at c.args.rows.now text) c.as_slice.ensures.value in
    rows_stay wholes (type_lent c.args.whole) c.args.rows.now c.min-dims.result c.in_ok-text.text.items c.in_ok-text.ensures c.min-dims.ensures (omega (arith, c.if-dims-most_dims.true, c.most_dims.ensures, most)) are

pub returns-clause-keyed : goal.returns-clause-keyed
returns-clause-keyed c =
    keyed_now c.args.rows.now c.insert.new.self c.in_ok-text.text (record { dims = c.min-dims.result; of = c.in_ok-of.of }) (type_lent c.args.whole).of c.requires
    (omega (arith, c.if-dims-most_dims.false)) (at_most c.min-dims.result c.args.whole.dims c.min-dims.ensures) c.in_ok-text.ensures c.in_ok-of.ensures c.in_ok-insert.ensures.entries

pub returns-clause-rows : goal.returns-clause-rows
returns-clause-rows c = λ wholes are.
    let top : Ty = record { dims = c.min-dims.result; of = c.in_ok-of.of } in
    let most : most_at c.args.rows.now c.as_slice.result.now ≡ most_at c.args.rows.now c.in_ok-text.text.items = ap (λ (text : Name). most_at c.args.rows.now text) c.as_slice.ensures.value in
    let keyed =
    keyed_now c.args.rows.now c.insert.new.self c.in_ok-text.text top (type_lent c.args.whole).of c.requires
    (omega (arith, c.if-dims-most_dims.false)) (at_most c.min-dims.result c.args.whole.dims c.min-dims.ensures) c.in_ok-text.ensures c.in_ok-of.ensures c.in_ok-insert.ensures.entries in
    rows_more wholes (type_lent c.args.whole) c.args.rows.now c.insert.new.self c.in_ok-text.text top c.in_ok-text.ensures c.min-dims.ensures
    (λ le. omega (arith, le, c.if-dims-most_dims.false, c.most_dims.ensures, most)) c.in_ok-insert.ensures.updates.1 c.in_ok-insert.ensures.entries keyed are
