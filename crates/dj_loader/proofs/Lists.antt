-- Lists and their members.
use Rattle.std.proofs.Common.{◌≡◌, ℕ, zero, suc, ◌⊎◌, List, [], ◌∷◌, ◌++◌, map, Contains, refl, ap, ◌∙◌, subst, inl, inr, arith}
use Rattle.std.specs.Prelude.{Some, slice_get}
use Rattle.std.proofs.lemmas.Option.{same_Some, slice_get_within, get_or_from_slice_get, slice_get-get_or}

pub member_first : {A : Type 0} (x : A) (xs : List A) → Contains (x ∷ xs) x
member_first x xs = (0, omega arith, refl)

pub member_later : {A : Type 0} (x : A) (xs : List A) (v : A) → Contains xs v → Contains (x ∷ xs) v
member_later x xs v (k, lt, e) = (suc k, omega arith, e)

pub member_none : {A : Type 0} (v : A) → Contains {X = A} [] v → ⊥
member_none v m = let h = m.1 in omega arith

pub member_cases : {A : Type 0} (x : A) (xs : List A) (v : A) → Contains (x ∷ xs) v → (x ≡ v) ⊎ Contains xs v
member_cases x xs v (zero, h, e) = inl e
member_cases x xs v (suc k, h, e) = inr (k, omega arith, e)

pub member_prefix : {A : Type 0} (xs ys : List A) (v : A) → Contains xs v → Contains (xs ++ ys) v
member_prefix [] ys v m = absurd (member_none v m)
member_prefix (x ∷ xs) ys v m =
    elim (member_cases x xs v m) [
      | inl e ↦ subst (Contains (x ∷ xs ++ ys)) e (member_first x (xs ++ ys))
      | inr later ↦ member_later x (xs ++ ys) v (member_prefix xs ys v later)
    ]

pub member_back : {A : Type 0} (xs ys : List A) (v : A) → Contains ys v → Contains (xs ++ ys) v
member_back [] ys v m = m
member_back (x ∷ xs) ys v m = member_later x (xs ++ ys) v (member_back xs ys v m)

pub member_of_either : {A : Type 0} (xs ys : List A) (v : A) → Contains (xs ++ ys) v → Contains xs v ⊎ Contains ys v
member_of_either [] ys v m = inr m
member_of_either (x ∷ xs) ys v m =
    elim (member_cases x (xs ++ ys) v m) [
      | inl e ↦ inl (subst (Contains (x ∷ xs)) e (member_first x xs))
      | inr later ↦ elim (member_of_either xs ys v later) [
        | inl prefix ↦ inl (member_later x xs v prefix)
        | inr back ↦ inr back
      ]
    ]

pub place_of_member : {A : Type 0} (xs : List A) (v : A) → Contains xs v → (k : ℕ) × (slice_get xs k ≡ Some v)
place_of_member xs v (k, lt, e) = (k, slice_get-get_or xs k v lt ∙ ap Some e)

pub member_at_place : {A : Type 0} (xs : List A) (k : ℕ) (v : A) → slice_get xs k ≡ Some v → Contains xs v
member_at_place xs k v e = (k, slice_get_within xs k v e, get_or_from_slice_get xs k v v e)

pub member_mapped : {A B : Type 0} (f : A → B) (xs : List A) (v : A) → Contains xs v → Contains (map f xs) (f v)
member_mapped f [] v m = absurd (member_none v m)
member_mapped f (x ∷ xs) v m =
    elim (member_cases x xs v m) [
      | inl e ↦ subst (λ y. Contains (map f (x ∷ xs)) (f y)) e (member_first (f x) (map f xs))
      | inr later ↦ member_later (f x) (map f xs) (f v) (member_mapped f xs v later)
    ]

pub some_of_map : {A B : Type 0} (f : A → B) (xs : List A) (k : ℕ) (y : B) → slice_get (map f xs) k ≡ Some y → (x : A) × (slice_get xs k ≡ Some x) × (f x ≡ y)
some_of_map f [] k y e = absurd cc
some_of_map f (x ∷ xs) zero y e = (x, refl, same_Some (f x) y e)
some_of_map f (x ∷ xs) (suc k) y e = some_of_map f xs k y e

pub of_map : {A B : Type 0} (f : A → B) (xs : List A) (y : B) → Contains (map f xs) y → (x : A) × Contains xs x × (f x ≡ y)
of_map f xs y m =
    let (k, at) = place_of_member (map f xs) y m in
    let (x, own, is) = some_of_map f xs k y at in
    (x, member_at_place xs k x own, is)
