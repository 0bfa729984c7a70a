-- Lists that are strictly sorted by a total order in which different keys are never equal.
use Rattle.std.proofs.Common.{◌≡◌, ℕ, suc, zero, ◌<◌, false, List, [], ◌∷◌, ◌++◌, refl, ap, ◌∙◌, sym, subst, arith, length, get_or, Ordering, Contains, ◌↔◌, inl, inr}
use Rattle.std.specs.Prelude.{◌⊎◌}
use Rattle.std.specs.declared.cmp.Ordering.TheVariants.{Less, Equal, Greater}
use Rattle.std.specs.Ordering.{is_gt, ordering_reverse}
use Rattle.std.specs.Cmp.{IsTotalOrder, tied_itself}
use Rattle.std.specs.FinMap.{IsAntisymmetric}
use Rattle.std.specs.List.Sorted.{IsStrictlySortedBy}
use Rattle.std.proofs.lemmas.List.Elements.{All-contains, All-append, recursion_from_All, Contains-get_or, Contains-append_right}
use Rattle.std.proofs.lemmas.Map.Keys.{sorted_tail}
use Rattle.std.proofs.lemmas.Map.Views.{All-after_first}

module _ {K : Type 0} where
  pub contains_first : (x : K) (xs : List K) → Contains (x ∷ xs) x
  contains_first x xs = (0, omega arith, refl)

  pub contains_later : (x : K) (xs : List K) (v : K) → Contains xs v → Contains (x ∷ xs) v
  contains_later x xs v m = Contains-append_right (x ∷ []) xs v m

  pub contains_none : (v : K) → Contains [] v → ⊥
  contains_none v m = let h = m.1 in omega arith

  pub contains_cases : (x : K) (xs : List K) (v : K) → Contains (x ∷ xs) v → (x ≡ v) ⊎ Contains xs v
  contains_cases x xs v (zero, h, e) = inl e
  contains_cases x xs v (suc k, h, e) = inr (k, omega arith, e)

module _ {K : Type 0} {R : K → K → Ordering} (total : IsTotalOrder R) where
  pub not_above_first : (x : K) (xs : List K) (v : K) → IsStrictlySortedBy R (x ∷ xs) → Contains (x ∷ xs) v → is_gt (R x v) ≡ false
  not_above_first x xs v s m =
      elim (contains_cases x xs v m) [
        | inl e ↦ subst (λ w. is_gt (R x w) ≡ false) e (ap is_gt (tied_itself total x))
        | inr l ↦ ap is_gt (All-contains (λ w. R x w ≡ Less) xs v (All-after_first R x xs s) l)
      ]

  -- a list sorted strictly, and then another whose keys are all above its own
  pub IsStrictlySortedBy-append : (xs ys : List K) → IsStrictlySortedBy R xs → IsStrictlySortedBy R ys → ((a b : K) → Contains xs a → Contains ys b → R a b ≡ Less) → IsStrictlySortedBy R (xs ++ ys)
  unfolding IsStrictlySortedBy
  IsStrictlySortedBy-append [] ys p q h = q
  IsStrictlySortedBy-append (x ∷ xs) ys p q h =
      let above = λ (k : ℕ) (d : K) (l : k < length ys). h x (get_or ys k d) (contains_first x xs) (Contains-get_or ys k d l) in (
        recursion_from_All (λ w. R x w ≡ Less) (xs ++ ys) (All-append (λ w. R x w ≡ Less) xs ys (All-after_first R x xs p) above),
        IsStrictlySortedBy-append xs ys p.1 q (λ a b m n. h a b (contains_later x xs a m) n),
      )

module _ {K : Type 0} {R : K → K → Ordering} (total : IsTotalOrder R) (apart : IsAntisymmetric R) where
  same_by : (x y : K) (r : Ordering) → R x y ≡ r → is_gt r ≡ false → is_gt (ordering_reverse r) ≡ false → x ≡ y
  same_by x y Less e h k = absurd cc
  same_by x y Equal e h k = apart x y e
  same_by x y Greater e h k = absurd cc

  same_firsts : (x y : K) → is_gt (R x y) ≡ false → is_gt (R y x) ≡ false → x ≡ y
  same_firsts x y h k = same_by x y (R x y) refl h (ap is_gt (sym (total.antisymm y x)) ∙ k)

  later : (x y v : K) (ys : List K) → x ≡ y → R x v ≡ Less → Contains (y ∷ ys) v → Contains ys v
  later x y v ys e l m =
      elim (contains_cases y ys v m) [
        | inl q ↦
            let t : R x v ≡ Equal = subst (λ w. R x w ≡ Equal) (e ∙ q) (tied_itself total x) in
            absurd cc
        | inr n ↦ n
      ]

  -- the members determine the list
  pub same_from_members : (xs ys : List K) → IsStrictlySortedBy R xs → IsStrictlySortedBy R ys → ((v : K) → Contains xs v ↔ Contains ys v) → xs ≡ ys
  same_from_members [] [] p q h = refl
  same_from_members [] (y ∷ ys) p q h = absurd (contains_none y ((h y).1 (contains_first y ys)))
  same_from_members (x ∷ xs) [] p q h = absurd (contains_none x ((h x).0 (contains_first x xs)))
  same_from_members (x ∷ xs) (y ∷ ys) p q h =
      let firsts : x ≡ y = same_firsts x y (not_above_first total x xs y p ((h y).1 (contains_first y ys))) (not_above_first total y ys x q ((h x).0 (contains_first x xs))) in
      let rests : xs ≡ ys = same_from_members xs ys (sorted_tail R x xs p) (sorted_tail R y ys q) (λ v. (
        λ m. later x y v ys firsts (All-contains (λ w. R x w ≡ Less) xs v (All-after_first R x xs p) m) ((h v).0 (contains_later x xs v m)),
        λ m. later y x v xs (sym firsts) (All-contains (λ w. R y w ≡ Less) ys v (All-after_first R y ys q) m) ((h v).1 (contains_later y ys v m)),
      )) in
      λ i. firsts i ∷ rests i
