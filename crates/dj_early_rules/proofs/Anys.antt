-- A member of a list that is such, as loops look for it.
use Rattle.std.proofs.Common.{◌≡◌, ℕ, zero, suc, ◌+◌, ◌<◌, ◌≤◌, ◌⊎◌, List, [], ◌∷◌, ◌++◌, map, take, length, get_or, refl, sym, ap, subst, inl, inr, Contains, Some, slice_get}
use Rattle.std.proofs.lemmas.List.{take_more, take_all}
use Rattle.std.proofs.lemmas.List.Elements.{Contains-get_or, Contains-push_cases}
use Rattle.dj_report.proofs.Sorted.{contains_none}
use Rattle.dj_report.proofs.Adding.{contains_map, from_contains_map}

module _ {X : Type 0} (P : X → Type 0) where
  abbrev pub IsAny : List X → Type 0
  IsAny xs = (x : X) × Contains xs x × P x

  pub none_yet : (xs : List X) → IsAny (take 0 xs) → ⊥
  none_yet xs any = contains_none any.0 any.1

  pub none_more : (xs : List X) (i : ℕ) (d : X) → i < length xs → (IsAny (take i xs) → ⊥) → (P (get_or xs i d) → ⊥) → IsAny (take (i + 1) xs) → ⊥
  none_more xs i d lt before here any =
      elim (Contains-push_cases (take i xs) (get_or xs i d) any.0 (subst (λ (ys : List X). Contains ys any.0) (take_more xs i d lt) any.1)) [
        | inl old ↦ before (any.0, old, any.2)
        | inr e ↦ here (subst P (sym e) any.2)
      ]

  pub found_at : (xs : List X) (i : ℕ) (d : X) → i < length xs → P (get_or xs i d) → IsAny xs
  found_at xs i d lt is = (get_or xs i d, Contains-get_or xs i d lt, is)

  pub none_at_all : (xs : List X) (i : ℕ) → length xs ≤ i → (IsAny (take i xs) → ⊥) → IsAny xs → ⊥
  none_at_all xs i le none = subst (λ (ys : List X). IsAny ys → ⊥) (take_all i xs le) none

-- a list, seen
pub seen_any : {X Y : Type 0} (f : X → Y) (P : Y → Type 0) (xs : List X) (ys : List Y) → map f xs ≡ ys → IsAny (λ x. P (f x)) xs → IsAny P ys
seen_any f P xs ys are any = (f any.0, subst (λ zs. Contains zs (f any.0)) are (contains_map f xs any.0 any.1), any.2)

pub from_seen_any : {X Y : Type 0} (f : X → Y) (P : Y → Type 0) (xs : List X) (ys : List Y) → map f xs ≡ ys → IsAny P ys → IsAny (λ x. P (f x)) xs
from_seen_any f P xs ys are any =
    let seen = from_contains_map f xs any.0 (subst (λ zs. Contains zs any.0) (sym are) any.1) in
    (seen.0, seen.1, subst P (sym seen.2) any.2)

-- ---- one item more

pub slice_get_push : {X : Type 0} (xs : List X) (x : X) (i : ℕ) (y : X) → slice_get (xs ++ x ∷ []) i ≡ Some y → (slice_get xs i ≡ Some y) ⊎ ((i ≡ length xs) × (x ≡ y))
slice_get_push [] x zero y e = inr (refl, cc)
slice_get_push [] x (suc i) y e = absurd cc
slice_get_push (z ∷ xs) x zero y e = inl e
slice_get_push (z ∷ xs) x (suc i) y e = elim (slice_get_push xs x i y e) [ inl old ↦ inl old | inr (same, is) ↦ inr (ap suc same, is) ]
