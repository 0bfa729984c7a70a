use Rattle.std.proofs.Common.{◌≡◌, rules, ℕ, ltb, true, false, subst}
use Rattle.std.specs.List.Sorted.{IsPartitionPoint}
use Rattle.std.proofs.lemmas.List.Sorted.{IsPartitionPoint-from_clause}
use Rattle.dj_member_index.specs.Calls.{place_key}
use Rattle.dj_member_index.proofs.CallLaws.{parted_places, placed_here}
use Rattle.dj_member_index.proofs.calls.halved.Goals as goal

pub returns-else-is_placed-clause-none : goal.returns-else-is_placed-clause-none
returns-else-is_placed-clause-none c e at placed =
    c.is_placed.ensures.other c.if-is_placed.false
    (placed_here c.args.rows.now c.args.class c.args.place c.partition_point-at.result c.ranges.class.fits c.ranges.place.fits c.requires
    (subst (λ (key : ℕ). IsPartitionPoint (λ row. ltb (place_key row) key ≡ true) (λ row. ltb (place_key row) key ≡ false) c.args.rows.now c.partition_point-at.result) c.pair_of-key.ensures
    (IsPartitionPoint-from_clause (λ row. ltb (place_key row) c.pair_of-key.result) _ _ c.partition_point-at.ensures.partitioned (parted_places c.args.rows.now c.pair_of-key.result c.requires) (λ a r q k. search rules))) at placed)
