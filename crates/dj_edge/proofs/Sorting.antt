-- Two sorted lists with the same elements are one list.
use Rattle.std.proofs.Common.{◌≡◌, ℕ, ◌+◌, ◌≤◌, Bool, true, false, cond, List, [], ◌∷◌, All, AllPairs, refl, sym, ap, ◌∙◌, arith}
use Rattle.std.specs.List.{sum_by}
use Rattle.std.specs.List.Sorted.{IsPermutation, IsSorted, IsSortedBy}
use Rattle.std.specs.Cmp.{IsTotalOrder, IsStrictWeakOrder}
use Rattle.std.specs.Cmp.Lexicographic.{slice_cmp}
use Rattle.std.specs.Ordering.{nat_cmp, is_lt, ordering_reverse}
use Rattle.std.specs.declared.cmp.Ordering.{Ordering}
use Rattle.std.specs.declared.cmp.Ordering.TheVariants.{Less, Equal, Greater}
use Rattle.std.specs.FinMap.{IsAntisymmetric, slice_cmp-IsAntisymmetric, nat_cmp-IsAntisymmetric}
use Rattle.std.proofs.lemmas.Cmp.{nat_list_cmp_total, tied_itself}
use Rattle.std.proofs.lemmas.List.Sums.{sum_by-cons, sum_by-le}
use Rattle.std.proofs.lemmas.List.Elements.{All-weaker, All-cons}
use Rattle.std.proofs.lemmas.List.Sorted.{sorted_far, ranks_by, sum_by-IsPermutation}
use Rattle.dj_edge.proofs.Pairs.{AllPairs-head, AllPairs-tail}

zero_from_sum : (b : Bool) (n : ℕ) → cond b 1 0 + n ≡ 0 → b ≡ false
zero_from_sum true n e = absurd (omega arith)
zero_from_sum false n e = refl

nothing_counted : (b : Bool) → b ≡ false → cond b 1 0 ≤ 0
nothing_counted true e = absurd cc
nothing_counted false e = omega arith

module _ {X : Type 0} (lt : X → X → Bool) (itself : (x : X) → lt x x ≡ false) where
  -- 1 where z is less than x
  abbrev below : X → X → ℕ
  below x z = cond (lt z x) 1 0

  -- nothing in a sorted list is less than its first element
  none_below : (x : X) (xs : List X) → AllPairs (λ a b. lt b a ≡ false) (x ∷ xs) → sum_by (below x) (x ∷ xs) ≡ 0
  none_below x xs pairs =
      let rest : All (λ z. below x z ≤ 0) xs =
      All-weaker (λ z. lt z x ≡ false) (λ z. below x z ≤ 0) (λ z e. nothing_counted (lt z x) e) xs (AllPairs-head (λ a b. lt b a ≡ false) x xs pairs) in
      let all : All (λ z. below x z ≤ 0) (x ∷ xs) = All-cons (λ z. below x z ≤ 0) x xs (nothing_counted (lt x x) (itself x)) rest in
      omega (arith, sum_by-le (below x) 0 (x ∷ xs) all)

  -- each function sums to the same over both
  pub same_from_sums : ((x y : X) → lt x y ≡ false → lt y x ≡ false → x ≡ y) → (xs ys : List X)
      → AllPairs (λ a b. lt b a ≡ false) xs → AllPairs (λ a b. lt b a ≡ false) ys
      → ((f : X → ℕ) → sum_by f ys ≡ sum_by f xs) → xs ≡ ys
  same_from_sums apart [] [] p q same = refl
  same_from_sums apart [] (y ∷ ys) p q same =
      let one : X → ℕ = λ _. 1 in
      absurd (omega (arith, same one, sum_by-cons one y ys))
  same_from_sums apart (x ∷ xs) [] p q same =
      let one : X → ℕ = λ _. 1 in
      absurd (omega (arith, same one, sum_by-cons one x xs))
  same_from_sums apart (x ∷ xs) (y ∷ ys) p q same =
      let first : lt y x ≡ false = zero_from_sum (lt y x) (sum_by (below x) ys) (sym (sum_by-cons (below x) y ys) ∙ same (below x) ∙ none_below x xs p) in
      let second : lt x y ≡ false = zero_from_sum (lt x y) (sum_by (below y) xs) (sym (sum_by-cons (below y) x xs) ∙ sym (same (below y)) ∙ none_below y ys q) in
      let head : x ≡ y = apart x y second first in
      let rest : (f : X → ℕ) → sum_by f ys ≡ sum_by f xs =
      λ f. omega (arith, same f, sum_by-cons f x xs, sum_by-cons f y ys, ap f head) in
      let tail : xs ≡ ys = same_from_sums apart xs ys (AllPairs-tail (λ a b. lt b a ≡ false) x xs p) (AllPairs-tail (λ a b. lt b a ≡ false) y ys q) rest in
      cc

neither_less : (r s : Ordering) → r ≡ ordering_reverse s → is_lt r ≡ false → is_lt s ≡ false → r ≡ Equal
neither_less Less s e p q = absurd cc
neither_less Equal s e p q = refl
neither_less Greater Less e p q = absurd cc
neither_less Greater Equal e p q = absurd cc
neither_less Greater Greater e p q = absurd cc

not_less : (r : Ordering) → r ≡ Equal → is_lt r ≡ false
not_less r e = ap is_lt e

-- what a sort ensures, for each pair
pub pairs_from_sorted : {X : Type 0} (lt : X → X → Bool) → IsStrictWeakOrder lt → (xs : List X) → IsSortedBy lt xs → AllPairs (λ a b. lt b a ≡ false) xs
pairs_from_sorted lt order xs sorted i j d before within = sorted_far lt order xs sorted i j d (omega arith) within

-- by an order in which no two elements are equal
pub same_from_sorted : {X : Type 0} {R : X → X → Ordering} → IsTotalOrder R → IsAntisymmetric R → (xs ys : List X) → IsSorted R xs → IsSorted R ys → IsPermutation xs ys → xs ≡ ys
same_from_sorted {R = R} total apart xs ys p q moved =
    let order : IsStrictWeakOrder (λ a b. is_lt (R a b)) = ranks_by total (λ a. a) in
    same_from_sums (λ a b. is_lt (R a b)) (λ x. not_less (R x x) (tied_itself total x))
    (λ x y e f. apart x y (neither_less (R x y) (R y x) (total.antisymm x y) e f)) xs ys
    (pairs_from_sorted (λ a b. is_lt (R a b)) order xs p) (pairs_from_sorted (λ a b. is_lt (R a b)) order ys q)
    (λ f. sum_by-IsPermutation f xs ys moved)

-- texts by their bytes
pub same_texts : (xs ys : List (List ℕ)) → AllPairs (λ a b. is_lt (slice_cmp nat_cmp b a) ≡ false) xs → AllPairs (λ a b. is_lt (slice_cmp nat_cmp b a) ≡ false) ys → IsPermutation xs ys → xs ≡ ys
same_texts xs ys p q moved =
    same_from_sums (λ a b. is_lt (slice_cmp nat_cmp a b)) (λ x. not_less (slice_cmp nat_cmp x x) (tied_itself nat_list_cmp_total x))
    (λ x y e f. slice_cmp-IsAntisymmetric nat_cmp-IsAntisymmetric x y (neither_less (slice_cmp nat_cmp x y) (slice_cmp nat_cmp y x) (nat_list_cmp_total.antisymm x y) e f)) xs ys
    p q (λ f. sum_by-IsPermutation f xs ys moved)
