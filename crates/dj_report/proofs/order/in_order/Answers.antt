use Rattle.std.proofs.Common.{refl}
use Rattle.std.specs.Cmp.{eq_by_cmp_equiv}
use Rattle.std.proofs.lemmas.List.Filters.{dedup_is}
use Rattle.std.proofs.lemmas.List.Kept.{IsStrictlySortedBy-dedup, Contains-dedup, Contains-from_dedup}
use Rattle.std.proofs.lemmas.List.Sorted.{Contains-permutation, IsPermutation-sym}
use Rattle.dj_report.specs.OrderLaws.{violation_cmp_total}
use Rattle.dj_report.proofs.InOrder.{same_from_eq}
use Rattle.dj_report.proofs.order.in_order.Goals as goal

pub returns-clause-ordered : goal.returns-clause-ordered
returns-clause-ordered c =
    let is = dedup_is _ _ _ c.dedup.ensures.filtered in
    rw (c.from.ensures, is) (IsStrictlySortedBy-dedup violation_cmp_total (λ _ _. refl) _ c.sort_unstable.ensures.sorted)

pub returns-clause-members : goal.returns-clause-members
returns-clause-members c v =
    let is = dedup_is _ _ _ c.dedup.ensures.filtered in
    let moved = c.sort_unstable.ensures.permutation in
    rw (c.from.ensures, is) (
      λ h. Contains-permutation _ _ v (IsPermutation-sym _ _ moved) (Contains-from_dedup _ _ v h),
      λ h. Contains-dedup (eq_by_cmp_equiv violation_cmp_total) same_from_eq _ v (Contains-permutation _ _ v moved h),
    )
