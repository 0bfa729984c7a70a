use Rattle.std.proofs.Common.{◌<◌, refl, arith}
use Rattle.dj_resolution.proofs.Marks.{found_below}
use Rattle.dj_resolution.proofs.ranked.ranks_in.Goals as goal

pub index_mut-requires : goal.index_mut-requires
index_mut-requires c =
    let found = c.in-Some.ensures.lookup in
    let lt : c.in-Some.field-0.now < c.args.count = found_below c.args.count c.args.order.now c.args.order.now c.loop-rank.rank c.in-Some.field-0.now c.requires refl found.3.0 (found.3.1 0) in
    omega (arith, lt, c.loop-rank.invariant, c.loop-rank.ranks.ok.0)
