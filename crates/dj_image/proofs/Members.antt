-- Members of lists that are made of others.
use Rattle.std.proofs.Common.{◌≡◌, zero, suc, ◌⊎◌, Bool, true, false, cond, List, [], ◌∷◌, ◌++◌, Option, Some, None, refl, sym, ap, subst, ◌∙◌, inl, inr, arith, Contains, IsTrue}
use Rattle.std.specs.List.{flat_map, filter_map, filter, cons_option}
use Rattle.std.proofs.lemmas.List.Elements.{Contains-append_left, Contains-append_right, Contains-append_cases}
use Rattle.dj_image.specs.Uses.{SameMembers}

module _ {A : Type 0} where
  pub member_first : (x : A) (xs : List A) → Contains (x ∷ xs) x
  member_first x xs = (0, omega arith, refl)

  pub member_later : (x : A) (xs : List A) (v : A) → Contains xs v → Contains (x ∷ xs) v
  member_later x xs v m = Contains-append_right (x ∷ []) xs v m

  pub member_none : (v : A) → Contains [] v → ⊥
  member_none v m = let h = m.1 in omega arith

  pub member_cases : (x : A) (xs : List A) (v : A) → Contains (x ∷ xs) v → (x ≡ v) ⊎ Contains xs v
  member_cases x xs v (zero, h, e) = inl e
  member_cases x xs v (suc k, h, e) = inr (k, omega arith, e)

  pub same_append : (xs ys zs ws : List A) → SameMembers xs ys → SameMembers zs ws → SameMembers (xs ++ zs) (ys ++ ws)
  same_append xs ys zs ws f g = λ v. (
    λ m. elim (Contains-append_cases xs zs v m) [ inl a ↦ Contains-append_left ys ws v ((f v).0 a) | inr b ↦ Contains-append_right ys ws v ((g v).0 b) ],
    λ m. elim (Contains-append_cases ys ws v m) [ inl a ↦ Contains-append_left xs zs v ((f v).1 a) | inr b ↦ Contains-append_right xs zs v ((g v).1 b) ],
  )

module _ {A B : Type 0} where
  pub member_of_filter_map : (f : A → Option B) (xs : List A) (y : B) → Contains (filter_map f xs) y → (x : A) × Contains xs x × (f x ≡ Some y)
  member_of_filter_map f [] y m = absurd (member_none y m)
  member_of_filter_map f (x ∷ xs) y m = by (f x) refl m (member_of_filter_map f xs y) where
    by : (o : Option B) → f x ≡ o → Contains (cons_option o (filter_map f xs)) y → (Contains (filter_map f xs) y → (z : A) × Contains xs z × (f z ≡ Some y)) → (z : A) × Contains (x ∷ xs) z × (f z ≡ Some y)
    by None e m rest = let found = rest m in (found.0, member_later x xs found.0 found.1, found.2)
    by (Some b) e m rest = elim (member_cases b (filter_map f xs) y m) [
      | inl same ↦ (x, member_first x xs, e ∙ ap Some same)
      | inr later ↦ let found = rest later in (found.0, member_later x xs found.0 found.1, found.2)
    ]

  pub member_filter_map : (f : A → Option B) (xs : List A) (x : A) (y : B) → Contains xs x → f x ≡ Some y → Contains (filter_map f xs) y
  member_filter_map f [] x y m e = absurd (member_none x m)
  member_filter_map f (z ∷ xs) x y m e = elim (member_cases z xs x m) [
    | inl same ↦ first (f z) (ap f same ∙ e)
    | inr later ↦ rest (f z) (member_filter_map f xs x y later e)
  ] where
    first : (o : Option B) → o ≡ Some y → Contains (cons_option o (filter_map f xs)) y
    first o is = subst (λ (u : Option B). Contains (cons_option u (filter_map f xs)) y) (sym is) (member_first y (filter_map f xs))

    rest : (o : Option B) → Contains (filter_map f xs) y → Contains (cons_option o (filter_map f xs)) y
    rest None n = n
    rest (Some b) n = member_later b (filter_map f xs) y n

  pub member_of_flat_map : (f : A → List B) (xs : List A) (y : B) → Contains (flat_map f xs) y → (x : A) × Contains xs x × Contains (f x) y
  member_of_flat_map f [] y m = absurd (member_none y m)
  member_of_flat_map f (x ∷ xs) y m = elim (Contains-append_cases (f x) (flat_map f xs) y m) [
    | inl here ↦ (x, member_first x xs, here)
    | inr later ↦ let found = member_of_flat_map f xs y later in (found.0, member_later x xs found.0 found.1, found.2)
  ]

  pub member_flat_map : (f : A → List B) (xs : List A) (x : A) (y : B) → Contains xs x → Contains (f x) y → Contains (flat_map f xs) y
  member_flat_map f [] x y m n = absurd (member_none x m)
  member_flat_map f (z ∷ xs) x y m n = elim (member_cases z xs x m) [
    | inl same ↦ Contains-append_left (f z) (flat_map f xs) y (subst (λ (u : A). Contains (f u) y) (sym same) n)
    | inr later ↦ Contains-append_right (f z) (flat_map f xs) y (member_flat_map f xs x y later n)
  ]

  pub same_filter_map : (f : A → Option B) (xs ys : List A) → SameMembers xs ys → SameMembers (filter_map f xs) (filter_map f ys)
  same_filter_map f xs ys same = λ v. (
    λ m. let found = member_of_filter_map f xs v m in member_filter_map f ys found.0 v ((same found.0).0 found.1) found.2,
    λ m. let found = member_of_filter_map f ys v m in member_filter_map f xs found.0 v ((same found.0).1 found.1) found.2,
  )

module _ {A : Type 0} where
  pub member_of_filter : (p : A → Bool) (xs : List A) (x : A) → Contains (filter p xs) x → Contains xs x × IsTrue (p x)
  member_of_filter p [] x m = absurd (member_none x m)
  member_of_filter p (z ∷ xs) x m = by (p z) refl m (member_of_filter p xs x) where
    by : (b : Bool) → p z ≡ b → Contains (cond b (z ∷ filter p xs) (filter p xs)) x → (Contains (filter p xs) x → Contains xs x × IsTrue (p x)) → Contains (z ∷ xs) x × IsTrue (p x)
    by false e m rest = let found = rest m in (member_later z xs x found.0, found.1)
    by true e m rest = elim (member_cases z (filter p xs) x m) [
      | inl same ↦ (subst (λ (u : A). Contains (z ∷ xs) u) same (member_first z xs), ap p (sym same) ∙ e)
      | inr later ↦ let found = rest later in (member_later z xs x found.0, found.1)
    ]

  pub member_filter : (p : A → Bool) (xs : List A) (x : A) → Contains xs x → IsTrue (p x) → Contains (filter p xs) x
  member_filter p [] x m t = absurd (member_none x m)
  member_filter p (z ∷ xs) x m t = elim (member_cases z xs x m) [
    | inl same ↦ first (p z) (ap p same ∙ t) same
    | inr later ↦ rest (p z) (member_filter p xs x later t)
  ] where
    first : (b : Bool) → b ≡ true → z ≡ x → Contains (cond b (z ∷ filter p xs) (filter p xs)) x
    first true e same = subst (λ (u : A). Contains (z ∷ filter p xs) u) same (member_first z (filter p xs))
    first false e same = absurd cc

    rest : (b : Bool) → Contains (filter p xs) x → Contains (cond b (z ∷ filter p xs) (filter p xs)) x
    rest true n = member_later z (filter p xs) x n
    rest false n = n

  pub same_filter : (p : A → Bool) (xs ys : List A) → SameMembers xs ys → SameMembers (filter p xs) (filter p ys)
  same_filter p xs ys same = λ v. (
    λ m. let found = member_of_filter p xs v m in member_filter p ys v ((same v).0 found.0) found.1,
    λ m. let found = member_of_filter p ys v m in member_filter p xs v ((same v).1 found.0) found.1,
  )
