-- Tests that hold, and tests of lists.
use Rattle.std.proofs.Common.{◌≡◌, ℕ, zero, suc, ◌⊎◌, Bool, true, false, ◌&&◌, List, [], ◌∷◌, Option, Some, None, Contains, refl, subst, inl, inr}
use Rattle.std.specs.Prelude.{slice_get, unwrap_or, IsSomeAnd}
use Rattle.std.specs.List.{list_all, AllByRecursion}
use Rattle.dj_loader.proofs.Lists.{member_first, member_later, member_none, member_cases}

pub is_true : (b : Bool) → (b ≡ false → ⊥) → b ≡ true
is_true true none = refl
is_true false none = absurd (none refl)

pub is_false : (b : Bool) → (b ≡ true → ⊥) → b ≡ false
is_false true none = absurd (none refl)
is_false false none = refl

-- ---- what may be there

abbrev pub text_or : Option (List ℕ) → List ℕ
text_or o = unwrap_or o []

pub some_and : {A : Type 0} (o : Option A) (P : A → Type 0) → IsSomeAnd o P → (x : A) × (o ≡ Some x) × P x
some_and None P h = absurd h
some_and (Some x) P h = (x, refl, h)

-- ---- of all in a list

pub all_from : {A : Type 0} (test : A → Bool) (xs : List A) → ((x : A) → Contains xs x → test x ≡ true) → list_all test xs ≡ true
all_from test [] each = refl
all_from test (x ∷ xs) each =
    let first : test x ≡ true = each x (member_first x xs) in
    let rest : list_all test xs ≡ true = all_from test xs (λ y m. each y (member_later x xs y m)) in
    rw (first, rest) refl

pub all_at : {A : Type 0} (test : A → Bool) (xs : List A) (x : A) → list_all test xs ≡ true → Contains xs x → test x ≡ true
all_at test [] x all m = absurd (member_none x m)
all_at test (y ∷ xs) x all m = by (test y) refl (list_all test xs) refl all (member_cases y xs x m) (λ e later. all_at test xs x e later) where
  by : (b : Bool) → test y ≡ b → (r : Bool) → list_all test xs ≡ r → (b && r) ≡ true → (y ≡ x) ⊎ Contains xs x → (list_all test xs ≡ true → Contains xs x → test x ≡ true) → test x ≡ true
  by true e true rest all (inl same) more = subst (λ z. test z ≡ true) same e
  by true e true rest all (inr later) more = more rest later
  by true e false rest all either more = absurd cc
  by false e r rest all either more = absurd cc

pub each_at : {A : Type 0} (P : A → Type 0) (xs : List A) (k : ℕ) (x : A) → AllByRecursion P xs → slice_get xs k ≡ Some x → P x
each_at P [] k x all e = absurd cc
each_at P (y ∷ xs) zero x all e = let same : y ≡ x = cc in subst P same all.0
each_at P (y ∷ xs) (suc k) x all e = each_at P xs k x all.1 e
