use Rattle.std.proofs.Common.{rules, length, refl}
use Rattle.std.proofs.lemmas.List.Sorted.{IsNonDecreasingBy-from_sort_by_key}
use Rattle.dj_declarations.specs.MemberRows.{key_at}
use Rattle.dj_declarations.proofs.RowLaws.{ordered_by}
use Rattle.dj_declarations.proofs.members.order_of.Goals as goal

pub returns : goal.returns
returns c =
    let rows = c.args.rows.now in
    let sorted = c.sort_unstable_by_key.new.self.items in
    ordered_by rows c.in_ok-order.order.items sorted (length rows) refl c.in_ok-order.ensures c.sort_unstable_by_key.ensures.permutation
    (IsNonDecreasingBy-from_sort_by_key (key_at rows) sorted c.sort_unstable_by_key.ensures.sorted (λ a r q k. search rules))
