-- Tests on all elements of a list, and elements of lists that are made of others.
use Rattle.std.proofs.Common.{◌≡◌, ℕ, zero, suc, ◌&&◌, ◌||◌, Bool, true, false, not, List, [], ◌∷◌, ◌++◌, map, Some, refl, sym, subst, inl, inr, arith, Contains, filter, slice_get, if◌then◌else◌}
use Rattle.std.specs.List.{list_all, list_any, AllByRecursion}
use Rattle.dj_model.proofs.MappedNames.{either}
use Rattle.dj_model.proofs.SoundLinks.{both_parts, here, later}

-- ---- tests

pub both : (a b : Bool) → a ≡ true → b ≡ true → (a && b) ≡ true
both true b e f = f
both false b e f = absurd cc

pub or_right : (a b : Bool) → b ≡ true → (a || b) ≡ true
or_right true b e = refl
or_right false b e = e

pub first_or : (a b : Bool) → (a || b) ≡ true → a ≡ false → b ≡ true
first_or true b e f = absurd cc
first_or false b e f = e

pub not_or : (a b : Bool) → (not a || b) ≡ true → a ≡ true → b ≡ true
not_or true b e f = e
not_or false b e f = absurd cc

pub implied : (a b : Bool) → (a ≡ true → b ≡ true) → (not a || b) ≡ true
implied true b f = f refl
implied false b f = refl

module _ {A : Type 0} (test : A → Bool) where
  pub all_from : (xs : List A) → ((x : A) → Contains xs x → test x ≡ true) → list_all test xs ≡ true
  all_from [] each = refl
  all_from (x ∷ xs) each = both (test x) (list_all test xs) (each x (here x xs)) (all_from xs (λ y c. each y (later y x xs c)))

  pub all_numbered : (xs : List A) → ((n : ℕ) (x : A) → slice_get xs n ≡ Some x → test x ≡ true) → list_all test xs ≡ true
  all_numbered [] each = refl
  all_numbered (x ∷ xs) each = both (test x) (list_all test xs) (each 0 x refl) (all_numbered xs (λ n y e. each (suc n) y e))

  pub all_append : (xs ys : List A) → list_all test xs ≡ true → list_all test ys ≡ true → list_all test (xs ++ ys) ≡ true
  all_append [] ys p q = q
  all_append (x ∷ xs) ys p q = let r = both_parts (test x) (list_all test xs) p in both (test x) (list_all test (xs ++ ys)) r.0 (all_append xs ys r.1 q)

  pub any_from : (xs : List A) (x : A) → Contains xs x → test x ≡ true → list_any test xs ≡ true
  any_from [] x (k, lt, is) e = absurd (omega (arith, lt))
  any_from (y ∷ xs) x (zero, lt, is) e = let same : test y ≡ true = subst (λ (z : A). test z ≡ true) (sym is) e in rw same refl
  any_from (y ∷ xs) x (suc k, lt, is) e = or_right (test y) (list_any test xs) (any_from xs x (k, omega (arith, lt), is) e)

  -- where one passes, and all that pass have something, there is something
  pub some_of_all : (b : Bool) (xs : List A) → list_any test xs ≡ true → list_all (λ x. not (test x) || b) xs ≡ true → b ≡ true
  some_of_all b [] some all = absurd cc
  some_of_all b (x ∷ xs) some all =
      let p = both_parts (not (test x) || b) (list_all (λ x. not (test x) || b) xs) all in
      elim (either (test x)) [
        | inl e ↦ not_or (test x) b p.0 e
        | inr e ↦ some_of_all b xs (first_or (test x) (list_any test xs) some e) p.1
      ]

-- ---- elements

pub each_at : {A : Type 0} (P : A → Type 0) (xs : List A) → AllByRecursion P xs → (x : A) → Contains xs x → P x
each_at P [] all x (k, lt, is) = absurd (omega (arith, lt))
each_at P (y ∷ xs) all x (zero, lt, is) = subst P is all.0
each_at P (y ∷ xs) all x (suc k, lt, is) = each_at P xs all.1 x (k, omega (arith, lt), is)

pub mapped_from : {A B : Type 0} (f : A → B) (xs : List A) (y : B) → Contains (map f xs) y → (x : A) × Contains xs x × (f x ≡ y)
mapped_from f [] y (k, lt, is) = absurd (omega (arith, lt))
mapped_from f (x ∷ xs) y (zero, lt, is) = (x, here x xs, is)
mapped_from f (x ∷ xs) y (suc k, lt, is) = let r = mapped_from f xs y (k, omega (arith, lt), is) in (r.0, later r.0 x xs r.1, r.2)

pub filter_passes : {A : Type 0} (test : A → Bool) (xs : List A) (x : A) → Contains (filter test xs) x → test x ≡ true
filter_passes test [] x (k, lt, is) = absurd (omega (arith, lt))
filter_passes {A = A} test (y ∷ xs) x c = go (test y) refl (λ d. filter_passes test xs x d) c where
  go : (b : Bool) → test y ≡ b → (Contains (filter test xs) x → test x ≡ true) → Contains (if b then y ∷ filter test xs else filter test xs) x → test x ≡ true
  go true e more (zero, lt, is) = subst (λ (z : A). test z ≡ true) is e
  go true e more (suc k, lt, is) = more (k, omega (arith, lt), is)
  go false e more c = more c
