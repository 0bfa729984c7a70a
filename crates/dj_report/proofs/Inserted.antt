-- Violations put in order: a list with the same members, each once.
use Rattle.std.proofs.Common.{◌≡◌, List, [], ◌∷◌, ◌⊎◌, ◌↔◌, Ordering, Contains, refl, sym, ap, ◌∙◌, subst, inl, inr}
use Rattle.std.specs.declared.cmp.Ordering.TheVariants.{Less, Equal, Greater}
use Rattle.std.specs.Ordering.{match_ordering, ordering_reverse}
use Rattle.std.specs.Cmp.{IsTotalOrder}
use Rattle.std.specs.FinMap.{IsAntisymmetric}
use Rattle.std.specs.BTreeSet.{insert_key}
use Rattle.std.specs.List.{AllByRecursion}
use Rattle.std.specs.List.Sorted.{IsStrictlySortedBy}
use Rattle.dj_report.specs.declared.report.Violation.{Violation}
use Rattle.dj_report.specs.trusted.Order.{violation_cmp, IsInOrder}
use Rattle.dj_report.specs.OrderLaws.{violation_cmp_total}
use Rattle.dj_report.proofs.Sorted.{contains_first, contains_later, contains_none, contains_cases}
use Rattle.dj_report.proofs.InOrder.{violation_cmp-IsAntisymmetric}

module _ {K : Type 0} (R : K → K → Ordering) where
  each_inserted : (P : K → Type 0) (k : K) (xs : List K) → P k → AllByRecursion P xs → AllByRecursion P (insert_key R xs k)
  each_inserted P k [] p all = (p, tt)
  each_inserted P k (x ∷ xs) p all = by (R k x) (each_inserted P k xs p all.1) where
    by : (r : Ordering) → AllByRecursion P (insert_key R xs k) → AllByRecursion P (match_ordering r (k ∷ x ∷ xs) (x ∷ xs) (x ∷ insert_key R xs k))
    by Less later = (p, all)
    by Equal later = all
    by Greater later = (all.0, later)

module _ {K : Type 0} {R : K → K → Ordering} (total : IsTotalOrder R) where
  above_too : (k x : K) → R k x ≡ Less → (xs : List K) → AllByRecursion (λ y. R x y ≡ Less) xs → AllByRecursion (λ y. R k y ≡ Less) xs
  above_too k x e [] all = tt
  above_too k x e (y ∷ ys) all = (total.trans k x y e all.0, above_too k x e ys all.1)

  pub sorted_inserted : (k : K) (xs : List K) → IsStrictlySortedBy R xs → IsStrictlySortedBy R (insert_key R xs k)
  unfolding IsStrictlySortedBy
  sorted_inserted k [] s = (tt, tt)
  sorted_inserted k (x ∷ xs) s = by (R k x) refl (sorted_inserted k xs s.1) where
    by : (r : Ordering) → R k x ≡ r → IsStrictlySortedBy R (insert_key R xs k)
        → IsStrictlySortedBy R (match_ordering r (k ∷ x ∷ xs) (x ∷ xs) (x ∷ insert_key R xs k))
    by Less e later = ((e, above_too k x e xs s.0), s)
    by Equal e later = s
    by Greater e later = (each_inserted R (λ y. R x y ≡ Less) k xs (total.antisymm x k ∙ ap ordering_reverse e) s.0, later)

module _ {K : Type 0} {R : K → K → Ordering} (apart : IsAntisymmetric R) where
  pub members_inserted : (k : K) (xs : List K) (v : K) → Contains (insert_key R xs k) v ↔ ((k ≡ v) ⊎ Contains xs v)
  members_inserted k [] v = (
    contains_cases k [] v,
    λ any. elim any [
      | inl e ↦ subst (Contains (k ∷ [])) e (contains_first k [])
      | inr none ↦ absurd (contains_none v none)
    ],
  )
  members_inserted k (x ∷ xs) v = by (R k x) refl (members_inserted k xs v) where
    by : (r : Ordering) → R k x ≡ r → (Contains (insert_key R xs k) v ↔ ((k ≡ v) ⊎ Contains xs v))
        → Contains (match_ordering r (k ∷ x ∷ xs) (x ∷ xs) (x ∷ insert_key R xs k)) v ↔ ((k ≡ v) ⊎ Contains (x ∷ xs) v)
    by Less e later = (
      contains_cases k (x ∷ xs) v,
      λ any. elim any [
        | inl same ↦ subst (Contains (k ∷ x ∷ xs)) same (contains_first k (x ∷ xs))
        | inr m ↦ contains_later k (x ∷ xs) v m
      ],
    )
    by Equal e later = (
      λ m. inr m,
      λ any. elim any [
        | inl same ↦ subst (Contains (x ∷ xs)) (sym (apart k x e) ∙ same) (contains_first x xs)
        | inr m ↦ m
      ],
    )
    by Greater e later = (
      λ m. elim (contains_cases x (insert_key R xs k) v m) [
        | inl same ↦ inr (subst (Contains (x ∷ xs)) same (contains_first x xs))
        | inr more ↦ elim (later.0 more) [ inl same ↦ inl same | inr old ↦ inr (contains_later x xs v old) ]
      ],
      λ any. elim any [
        | inl same ↦ contains_later x (insert_key R xs k) v (later.1 (inl same))
        | inr m ↦ elim (contains_cases x xs v m) [
          | inl same ↦ subst (Contains (x ∷ insert_key R xs k)) same (contains_first x (insert_key R xs k))
          | inr old ↦ contains_later x (insert_key R xs k) v (later.1 (inr old))
        ]
      ],
    )

-- the violations of the list, in order
pub record Ordered (violations : List Violation) : Type 0 where
  pub lines : List Violation
  pub in_order : IsInOrder lines
  pub members : (v : Violation) → Contains lines v ↔ Contains violations v

pub ordered : (violations : List Violation) → Ordered violations
unfolding IsStrictlySortedBy
ordered [] = record { lines = []; in_order = tt; members = λ v. (λ m. m, λ m. m) }
ordered (k ∷ violations) =
    let rest = ordered violations in
    record {
      lines = insert_key violation_cmp rest.lines k;
      in_order = sorted_inserted violation_cmp_total k rest.lines rest.in_order;
      members = λ v.
          let inserted = members_inserted violation_cmp-IsAntisymmetric k rest.lines v in (
            λ m. elim (inserted.0 m) [
              | inl same ↦ subst (Contains (k ∷ violations)) same (contains_first k violations)
              | inr old ↦ contains_later k violations v ((rest.members v).0 old)
            ],
            λ m. elim (contains_cases k violations v m) [
              | inl same ↦ inserted.1 (inl same)
              | inr old ↦ inserted.1 (inr ((rest.members v).1 old))
            ],
          );
    }
