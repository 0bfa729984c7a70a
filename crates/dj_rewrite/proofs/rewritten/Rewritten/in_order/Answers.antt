use Rattle.std.proofs.Common.{rules}
use Rattle.std.specs.Ordering.{is_lt}
use Rattle.std.proofs.lemmas.List.Sorted.{answers_always}
use Rattle.dj_rewrite.specs.Sets.{file_cmp}
use Rattle.dj_rewrite.proofs.LeastParts.{file_order}
use Rattle.dj_rewrite.proofs.rewritten.Rewritten.in_order.Goals as goal

pub returns-clause-in_order : goal.returns-clause-in_order
returns-clause-in_order c =
    c.sort_unstable_by.ensures.sorted (λ a b. is_lt (file_cmp a b)) file_order (answers_always _ _ _ (λ f a r g called. search rules))
