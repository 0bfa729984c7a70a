-- Violations in order: only equal ones compare as equal, lists of rising paths join, and the members determine the list.
use Rattle.std.proofs.Common.{◌≡◌, refl, ap, ◌∷◌, [], ◌++◌, List, true, ℕ}
use Rattle.std.specs.Prelude.{Contains, ◌↔◌, Option, Some, None}
use Rattle.std.specs.declared.cmp.Ordering.{Ordering}
use Rattle.std.specs.declared.cmp.Ordering.TheVariants.{Less, Equal, Greater}
use Rattle.std.specs.Ordering.{nat_cmp, ordering_then, eq_by_cmp}
use Rattle.std.specs.Option.{option_cmp}
use Rattle.std.specs.Cmp.{Equal-is}
use Rattle.std.specs.Cmp.Lexicographic.{slice_cmp}
use Rattle.std.specs.List.Sorted.{IsStrictlySortedBy}
use Rattle.std.specs.FinMap.{IsAntisymmetric, nat_cmp-IsAntisymmetric, slice_cmp-IsAntisymmetric}
use Rattle.dj_report.specs.declared.report.Violation.{Violation}
use Rattle.dj_report.specs.trusted.Order.{violation_cmp, IsInOrder}
use Rattle.dj_report.specs.OrderLaws.{violation_cmp_total}
use Rattle.dj_report.proofs.Sorted.{IsStrictlySortedBy-append, same_from_members}

then_first : (r s : Ordering) → ordering_then r s ≡ Equal → r ≡ Equal
then_first Less s e = e
then_first Equal s e = refl
then_first Greater s e = e

then_second : (r s : Ordering) → ordering_then r s ≡ Equal → s ≡ Equal
then_second Less s e = absurd cc
then_second Equal s e = e
then_second Greater s e = absurd cc

option_same : (p q : Option ℕ) → option_cmp nat_cmp p q ≡ Equal → p ≡ q
option_same None None e = refl
option_same None (Some y) e = absurd cc
option_same (Some x) None e = absurd cc
option_same (Some x) (Some y) e = ap Some (nat_cmp-IsAntisymmetric x y e)

same_fields : (a b : Violation) → a.path ≡ b.path → a.member ≡ b.member → a.number ≡ b.number → a.rule ≡ b.rule → a ≡ b
same_fields a b p m n r = λ i. record { path = p i; member = m i; number = n i; rule = r i }

-- only equal violations compare as equal
pub violation_cmp-IsAntisymmetric : IsAntisymmetric violation_cmp
violation_cmp-IsAntisymmetric a b e =
    let rest = then_second _ _ e in
    let last = then_second _ _ rest in
    same_fields a b
    (slice_cmp-IsAntisymmetric nat_cmp-IsAntisymmetric a.path b.path (then_first _ _ e))
    (slice_cmp-IsAntisymmetric nat_cmp-IsAntisymmetric a.member b.member (then_first _ _ rest))
    (option_same a.number b.number (then_first _ _ last))
    (nat_cmp-IsAntisymmetric a.rule b.rule (then_second _ _ last))

pub same_from_eq : (a b : Violation) → eq_by_cmp violation_cmp a b ≡ true → a ≡ b
same_from_eq a b e = violation_cmp-IsAntisymmetric a b ((Equal-is (violation_cmp a b)).0 e)

first_less : (r s : Ordering) → r ≡ Less → ordering_then r s ≡ Less
first_less Less s e = refl
first_less Equal s e = absurd cc
first_less Greater s e = absurd cc

-- no violation, and one
pub IsInOrder-nil : IsInOrder []
unfolding IsStrictlySortedBy
IsInOrder-nil = tt

pub IsInOrder-one : (v : Violation) → IsInOrder (v ∷ [])
unfolding IsStrictlySortedBy
IsInOrder-one v = (tt, tt)

-- violations in order, and then others in order whose paths are all above
pub IsInOrder-append : (xs ys : List Violation) → IsInOrder xs → IsInOrder ys → ((a b : Violation) → Contains xs a → Contains ys b → slice_cmp nat_cmp a.path b.path ≡ Less) → IsInOrder (xs ++ ys)
IsInOrder-append xs ys p q h =
    IsStrictlySortedBy-append violation_cmp_total xs ys p q (λ a b m n. first_less _ _ (h a b m n))

-- the members determine the list
pub same_violations : (xs ys : List Violation) → IsInOrder xs → IsInOrder ys → ((v : Violation) → Contains xs v ↔ Contains ys v) → xs ≡ ys
same_violations = same_from_members violation_cmp_total violation_cmp-IsAntisymmetric
