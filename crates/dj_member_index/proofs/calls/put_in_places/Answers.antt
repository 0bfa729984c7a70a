use Rattle.std.proofs.Common.{rules}
use Rattle.std.proofs.lemmas.List.Sorted.{IsNonDecreasingBy-from_sort_by_key}
use Rattle.dj_member_index.specs.Calls.{place_key}
use Rattle.dj_member_index.proofs.calls.put_in_places.Goals as goal

pub returns-clause-ascend : goal.returns-clause-ascend
returns-clause-ascend c = IsNonDecreasingBy-from_sort_by_key place_key _ c.sort_unstable_by_key.ensures.sorted (λ a r q k. search rules)
