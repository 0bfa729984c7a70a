use Rattle.std.proofs.Common.{ℕ, subst, sym, arith}
use Rattle.dj_member_index.specs.DirectoryRows.{AreInOrder}
use Rattle.dj_member_index.proofs.RowLaws.{IsPointAt, are_rows_with, in_order_rest}
use Rattle.dj_member_index.proofs.rows.rows_with.Goals as goal

pub first_not_below-requires-2 : goal.first_not_below-requires-2
first_not_below-requires-2 c = subst AreInOrder (sym c.split_at.ensures.back) (in_order_rest c.args.rows.now c.first_not_below.result c.requires c.first_not_below.ensures.bound)

pub returns : goal.returns
returns c =
    are_rows_with c.args.rows.now c.split_at.result.1.now c.split_at-2.result.0.now c.args.name c.args.desc c.first_not_below.result c.first_not_below-2.result c.requires (omega (arith, c.ranges.desc.fits))
    c.first_not_below.ensures.bound c.split_at.ensures.back c.first_not_below-2.ensures.bound c.split_at-2.ensures.front
    (subst (λ (key : ℕ). IsPointAt c.args.rows.now key c.first_not_below.result) c.key_of-low.ensures c.first_not_below.ensures.point)
    (subst (λ (key : ℕ). IsPointAt c.split_at.result.1.now key c.first_not_below-2.result) c.key_of-high.ensures c.first_not_below-2.ensures.point)
