use Rattle.std.proofs.Common.{arith}
use Rattle.dj_rename.proofs.Places.{place_below}
use Rattle.dj_rename.proofs.sought.placed.Goals as goal

pub index_of-requires : goal.index_of-requires
index_of-requires c =
    let at = c.in-Some.ensures.1 in
    let below = place_below c.args.texts.now c.as_slice-2.result.now c.in-Some.ensures.0 in
    let few = c.requires.few in
    omega (arith, at, below, few)
