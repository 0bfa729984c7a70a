-- What stands in a list.
use Rattle.std.proofs.Common.{◌≡◌, ℕ, zero, suc, ◌⊎◌, inl, inr, Bool, true, false, cond, filter, List, [], ◌∷◌, ◌++◌, map, take, Contains, refl, sym, subst, arith}
use Rattle.std.specs.List.{flat_map, AllByRecursion}
use Rattle.std.proofs.lemmas.Bool.{cases_Bool}
use Rattle.std.proofs.lemmas.List.Elements.{Contains-append_left, Contains-append_right, Contains-append_cases}

module _ {X : Type 0} where
  pub none_in : (y : X) → Contains [] y → ⊥
  none_in y (k, lt, e) = omega (arith, lt)

  pub in_here : (x : X) (xs : List X) → Contains (x ∷ xs) x
  in_here x xs = (0, omega arith, refl)

  pub in_rest : (x : X) (xs : List X) (y : X) → Contains xs y → Contains (x ∷ xs) y
  in_rest x xs y (k, lt, e) = (suc k, omega (arith, lt), e)

  pub in_cases : (x : X) (xs : List X) (y : X) → Contains (x ∷ xs) y → (x ≡ y) ⊎ Contains xs y
  in_cases x xs y (zero, lt, e) = inl e
  in_cases x xs y (suc k, lt, e) = inr (k, omega (arith, lt), e)

  pub in_filter : (test : X → Bool) (xs : List X) (y : X) → Contains xs y → test y ≡ true → Contains (filter test xs) y
  in_filter test [] y h e = absurd (none_in y h)
  in_filter test (x ∷ xs) y h e = elim (cases_Bool (test x)) [
    | inl so ↦
        rw so
        (elim (in_cases x xs y h) [
          | inl same ↦ subst (λ z. Contains (x ∷ filter test xs) z) same (in_here x (filter test xs))
          | inr more ↦ in_rest x (filter test xs) y (in_filter test xs y more e)
        ])
    | inr other ↦
        rw other
        (elim (in_cases x xs y h) [
          | inl same ↦ let both : test x ≡ true = subst (λ z. test z ≡ true) (sym same) e in absurd cc
          | inr more ↦ in_filter test xs y more e
        ])
  ]

  pub from_filter : (test : X → Bool) (xs : List X) (y : X) → Contains (filter test xs) y → Contains xs y
  from_filter test [] y h = h
  from_filter test (x ∷ xs) y h = from (test x) h (λ more. from_filter test xs y more) where
    from : (b : Bool) → Contains (cond b (x ∷ filter test xs) (filter test xs)) y → (Contains (filter test xs) y → Contains xs y) → Contains (x ∷ xs) y
    from true h ih = elim (in_cases x (filter test xs) y h) [
      | inl same ↦ subst (λ z. Contains (x ∷ xs) z) same (in_here x xs)
      | inr more ↦ in_rest x xs y (ih more)
    ]
    from false h ih = in_rest x xs y (ih h)

  pub from_take : (n : ℕ) (xs : List X) (y : X) → Contains (take n xs) y → Contains xs y
  from_take zero xs y h = absurd (none_in y h)
  from_take (suc n) [] y h = h
  from_take (suc n) (x ∷ xs) y h = elim (in_cases x (take n xs) y h) [
    | inl same ↦ subst (λ z. Contains (x ∷ xs) z) same (in_here x xs)
    | inr more ↦ in_rest x xs y (from_take n xs y more)
  ]

  pub each_in : (P : X → Type 0) (xs : List X) (y : X) → AllByRecursion P xs → Contains xs y → P y
  each_in P [] y all h = absurd (none_in y h)
  each_in P (x ∷ xs) y all h = elim (in_cases x xs y h) [ inl same ↦ subst P same all.0 | inr more ↦ each_in P xs y all.1 more ]

  pub each_from : (P : X → Type 0) (xs : List X) → ((y : X) → Contains xs y → P y) → AllByRecursion P xs
  each_from P [] f = tt
  each_from P (x ∷ xs) f = (f x (in_here x xs), each_from P xs (λ y h. f y (in_rest x xs y h)))

  pub each_append : (P : X → Type 0) (xs ys : List X) → AllByRecursion P xs → AllByRecursion P ys → AllByRecursion P (xs ++ ys)
  each_append P [] ys h k = k
  each_append P (x ∷ xs) ys h k = (h.0, each_append P xs ys h.1 k)

  pub each_first : (P : X → Type 0) (xs ys : List X) → AllByRecursion P (xs ++ ys) → AllByRecursion P xs
  each_first P [] ys h = tt
  each_first P (x ∷ xs) ys h = (h.0, each_first P xs ys h.1)

  pub each_last : (P : X → Type 0) (xs ys : List X) → AllByRecursion P (xs ++ ys) → AllByRecursion P ys
  each_last P [] ys h = h
  each_last P (x ∷ xs) ys h = each_last P xs ys h.1

module _ {X Y : Type 0} where
  pub in_map : (f : X → Y) (xs : List X) (x : X) → Contains xs x → Contains (map f xs) (f x)
  in_map f [] x h = absurd (none_in x h)
  in_map f (z ∷ xs) x h = elim (in_cases z xs x h) [
    | inl same ↦ subst (λ w. Contains (f z ∷ map f xs) (f w)) same (in_here (f z) (map f xs))
    | inr more ↦ in_rest (f z) (map f xs) (f x) (in_map f xs x more)
  ]

  pub from_map : (f : X → Y) (xs : List X) (y : Y) → Contains (map f xs) y → (x : X) × Contains xs x × (f x ≡ y)
  from_map f [] y h = absurd (none_in y h)
  from_map f (x ∷ xs) y h = elim (in_cases (f x) (map f xs) y h) [
    | inl same ↦ (x, in_here x xs, same)
    | inr more ↦ let r = from_map f xs y more in (r.0, in_rest x xs r.0 r.1, r.2)
  ]

  pub in_flat_map : (f : X → List Y) (xs : List X) (x : X) (y : Y) → Contains xs x → Contains (f x) y → Contains (flat_map f xs) y
  in_flat_map f [] x y h k = absurd (none_in x h)
  in_flat_map f (z ∷ xs) x y h k = elim (in_cases z xs x h) [
    | inl same ↦ Contains-append_left (f z) (flat_map f xs) y (subst (λ w. Contains (f w) y) (sym same) k)
    | inr more ↦ Contains-append_right (f z) (flat_map f xs) y (in_flat_map f xs x y more k)
  ]

  pub from_flat_map : (f : X → List Y) (xs : List X) (y : Y) → Contains (flat_map f xs) y → (x : X) × Contains xs x × Contains (f x) y
  from_flat_map f [] y h = absurd (none_in y h)
  from_flat_map f (x ∷ xs) y h = elim (Contains-append_cases (f x) (flat_map f xs) y h) [
    | inl here ↦ (x, in_here x xs, here)
    | inr more ↦ let r = from_flat_map f xs y more in (r.0, in_rest x xs r.0 r.1, r.2)
  ]
