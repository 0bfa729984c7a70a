use Rattle.std.proofs.Common.{◌≡◌, ℕ, ◌*◌, ◌<◌, ltb, true, false, length, get_or, subst, arith}
use Rattle.std.specs.List.Sorted.{IsPartitionPoint}
use Rattle.std.proofs.lemmas.List.{get_or_default}
use Rattle.dj_declarations.specs.MemberRows.{key_at}
use Rattle.dj_declarations.proofs.RowLaws.{answer_is, none_past}
use Rattle.dj_declarations.proofs.members.first_of.Goals as goal

pub returns-then-at-order : goal.returns-then-at-order
returns-then-at-order c =
    let rows = c.args.rows.now in
    let order = c.args.order.now in
    let at = c.first_not_below-at.result in
    none_past rows order c.args.name c.args.desc at c.requires
    (subst (λ (n : ℕ). IsPartitionPoint (λ k. ltb (key_at rows k) (n * 65536) ≡ true) (λ k. ltb (key_at rows k) (n * 65536) ≡ false) order at) c.pair_of.ensures.value c.first_not_below-at.ensures.point)
    (omega (arith, c.if-at-order.true))

pub returns : goal.returns
returns c =
    let rows = c.args.rows.now in
    let order = c.args.order.now in
    let at = c.first_not_below-at.result in
    let within : at < length order = omega (arith, c.first_not_below-at.ensures.bound, c.if-at-order.false) in
    answer_is rows order c.args.name c.args.desc at (get_or order at 0) c.place_if.result c.requires
    (subst (λ (n : ℕ). IsPartitionPoint (λ k. ltb (key_at rows k) (n * 65536) ≡ true) (λ k. ltb (key_at rows k) (n * 65536) ≡ false) order at) c.pair_of.ensures.value c.first_not_below-at.ensures.point)
    within (get_or_default order at 0 (get_or order at 0) within) c.place_if.ensures
