use Rattle.std.proofs.Common.{get_or, ◌∙◌, subst, arith, ℤ, pos, int_lt, ◌≡◌, ◌<◌, true, false, length, SFits, w32}
use Rattle.std.specs.List.Sorted.{IsPartitionPoint}
use Rattle.std.proofs.lemmas.Int.{to_z-of_z}
use Rattle.std.proofs.lemmas.List.{get_or_default}
use Rattle.dj_ops.specs.Lookups.{target_if}
use Rattle.dj_ops.proofs.Rising.{Pair}
use Rattle.dj_ops.proofs.Lookups.{found_at, past_all}
use Rattle.dj_ops.proofs.matches.target_by_halving.Goals as goal

pub returns-then-pairs-place : goal.returns-then-pairs-place
returns-then-pairs-place c =
    let fits : SFits w32 c.args.wanted = c.ranges.wanted in
    let point = subst (λ (z : ℤ). IsPartitionPoint (λ (pair : Pair). int_lt pair.0 z ≡ true) (λ (pair : Pair). int_lt pair.0 z ≡ false) c.args.pairs.now c.first_not_below-place.result)
    (to_z-of_z w32 c.args.wanted fits) c.first_not_below-place.ensures.point in
    past_all c.args.pairs.now c.args.wanted c.first_not_below-place.result c.requires c.first_not_below-place.ensures.bound point (omega (arith, c.if-pairs-place.true))

pub returns : goal.returns
returns c =
    let pairs = c.args.pairs.now in
    let place = c.first_not_below-place.result in
    let fits : SFits w32 c.args.wanted = c.ranges.wanted in
    let point = subst (λ (z : ℤ). IsPartitionPoint (λ (pair : Pair). int_lt pair.0 z ≡ true) (λ (pair : Pair). int_lt pair.0 z ≡ false) c.args.pairs.now c.first_not_below-place.result)
    (to_z-of_z w32 c.args.wanted fits) c.first_not_below-place.ensures.point in
    let within : place < length pairs = omega (arith, c.if-pairs-place.false) in
    let pair : Pair = get_or pairs place (pos 0, pos 0) in
    subst (λ (z : ℤ). c.target_if.result ≡ target_if pair z) (to_z-of_z w32 c.args.wanted fits) c.target_if.ensures
    ∙ found_at pairs c.args.wanted place c.requires c.first_not_below-place.ensures.bound point pair within (get_or_default pairs place (pos 0, pos 0) pair within)
