use Rattle.std.proofs.Common.{rules}
use Rattle.std.proofs.lemmas.List.Sorted.{IsNonDecreasingBy-from_sort_by_key}
use Rattle.dj_member_index.specs.DirectoryRows.{key_of}
use Rattle.dj_member_index.proofs.rows.put_in_order.Goals as goal

pub returns-clause-ascend : goal.returns-clause-ascend
returns-clause-ascend c = IsNonDecreasingBy-from_sort_by_key key_of _ c.sort_unstable_by_key.ensures.sorted (λ a r q k. search rules)
