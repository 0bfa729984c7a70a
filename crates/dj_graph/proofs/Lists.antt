-- Lists: which item stands at a place, after a push, a write, a take or a drop.
use Rattle.std.proofs.Common.{◌≡◌, ℕ, zero, suc, ◌+◌, ◌<◌, ◌⊎◌, List, [], ◌∷◌, ◌++◌, length, take, drop, set, replicate, slice_get, Some, Contains, refl, sym, ◌∙◌, ap, subst, inl, inr, arith}
use Rattle.std.proofs.lemmas.Bool.{cases_lt}
use Rattle.std.proofs.lemmas.Option.{same_Some, none-some}

-- x stands at place i
abbrev pub At : {X : Type 0} → List X → ℕ → X → Type 0
At xs i x = slice_get xs i ≡ Some x

pub at_within : {X : Type 0} (xs : List X) (i : ℕ) (x : X) → At xs i x → i < length xs
at_within [] i x at = absurd (none-some x at)
at_within (y ∷ ys) zero x at = omega arith
at_within (y ∷ ys) (suc i) x at = let rest = at_within ys i x at in omega (arith, rest)

pub at_some : {X : Type 0} (xs : List X) (i : ℕ) → i < length xs → (x : X) × At xs i x
at_some [] i lt = absurd (omega (arith, lt))
at_some (y ∷ ys) zero lt = (y, refl)
at_some (y ∷ ys) (suc i) lt = at_some ys i (omega (arith, lt))

pub push_cases : {X : Type 0} (xs : List X) (y : X) (i : ℕ) (x : X) → At (xs ++ y ∷ []) i x → At xs i x ⊎ ((i ≡ length xs) × (x ≡ y))
push_cases [] y zero x at = inr (refl, sym (same_Some y x at))
push_cases [] y (suc i) x at = absurd (none-some x at)
push_cases (z ∷ xs) y zero x at = inl at
push_cases (z ∷ xs) y (suc i) x at = elim (push_cases xs y i x at) [ inl h ↦ inl h | inr h ↦ inr (omega (arith, h.0), h.1) ]

pub push_old : {X : Type 0} (xs : List X) (y : X) (i : ℕ) (x : X) → At xs i x → At (xs ++ y ∷ []) i x
push_old [] y i x at = absurd (none-some x at)
push_old (z ∷ xs) y zero x at = at
push_old (z ∷ xs) y (suc i) x at = push_old xs y i x at

pub push_new : {X : Type 0} (xs : List X) (y : X) → At (xs ++ y ∷ []) (length xs) y
push_new [] y = refl
push_new (z ∷ xs) y = push_new xs y

pub set_same : {X : Type 0} (xs : List X) (i : ℕ) (y : X) → i < length xs → At (set xs i y) i y
set_same [] i y lt = absurd (omega (arith, lt))
set_same (x ∷ xs) zero y lt = refl
set_same (x ∷ xs) (suc i) y lt = set_same xs i y (omega (arith, lt))

pub set_other : {X : Type 0} (xs : List X) (i j : ℕ) (y x : X) → (j ≡ i → ⊥) → At xs j x → At (set xs i y) j x
set_other [] i j y x apart at = absurd (none-some x at)
set_other (z ∷ xs) zero zero y x apart at = absurd (apart refl)
set_other (z ∷ xs) zero (suc j) y x apart at = at
set_other (z ∷ xs) (suc i) zero y x apart at = at
set_other (z ∷ xs) (suc i) (suc j) y x apart at = set_other xs i j y x (λ same. apart (ap suc same)) at

pub set_elsewhere : {X : Type 0} (xs : List X) (i j : ℕ) (y : X) → (j ≡ i → ⊥) → slice_get (set xs i y) j ≡ slice_get xs j
set_elsewhere [] i j y apart = refl
set_elsewhere (z ∷ xs) zero zero y apart = absurd (apart refl)
set_elsewhere (z ∷ xs) zero (suc j) y apart = refl
set_elsewhere (z ∷ xs) (suc i) zero y apart = refl
set_elsewhere (z ∷ xs) (suc i) (suc j) y apart = set_elsewhere xs i j y (λ same. apart (ap suc same))

pub set_cases : {X : Type 0} (xs : List X) (i j : ℕ) (y x : X) → At (set xs i y) j x → ((j ≡ i) × (x ≡ y)) ⊎ ((j ≡ i → ⊥) × At xs j x)
set_cases [] i j y x at = absurd (none-some x at)
set_cases (z ∷ xs) zero zero y x at = inl (refl, sym (same_Some y x at))
set_cases (z ∷ xs) zero (suc j) y x at = inr (λ same. omega (arith, same), at)
set_cases (z ∷ xs) (suc i) zero y x at = inr (λ same. omega (arith, same), at)
set_cases (z ∷ xs) (suc i) (suc j) y x at =
    elim (set_cases xs i j y x at) [ inl h ↦ inl (ap suc h.0, h.1) | inr h ↦ inr (λ same. h.0 (omega (arith, same)), h.1) ]

pub of_take : {X : Type 0} (n : ℕ) (xs : List X) (i : ℕ) (x : X) → At (take n xs) i x → (i < n) × At xs i x
of_take zero xs i x at = absurd (none-some x at)
of_take (suc n) [] i x at = absurd (none-some x at)
of_take (suc n) (y ∷ ys) zero x at = (omega arith, at)
of_take (suc n) (y ∷ ys) (suc i) x at = let rest = of_take n ys i x at in (omega (arith, rest.0), rest.1)

pub in_take : {X : Type 0} (n : ℕ) (xs : List X) (i : ℕ) (x : X) → i < n → At xs i x → At (take n xs) i x
in_take zero xs i x lt at = absurd (omega (arith, lt))
in_take (suc n) [] i x lt at = absurd (none-some x at)
in_take (suc n) (y ∷ ys) zero x lt at = at
in_take (suc n) (y ∷ ys) (suc i) x lt at = in_take n ys i x (omega (arith, lt)) at

pub of_drop : {X : Type 0} (n : ℕ) (xs : List X) (i : ℕ) → slice_get (drop n xs) i ≡ slice_get xs (n + i)
of_drop zero xs i = ap (slice_get xs) (omega arith)
of_drop (suc n) [] i = refl
of_drop (suc n) (y ∷ ys) i =
    let more : suc (n + i) ≡ suc n + i = omega arith in
    of_drop n ys i ∙ ap (slice_get (y ∷ ys)) more

pub of_replicate : {X : Type 0} (n : ℕ) (y : X) (i : ℕ) (x : X) → At (replicate n y) i x → x ≡ y
of_replicate zero y i x at = absurd (none-some x at)
of_replicate (suc n) y zero x at = sym (same_Some y x at)
of_replicate (suc n) y (suc i) x at = of_replicate n y i x at

pub in_replicate : {X : Type 0} (n : ℕ) (y : X) (i : ℕ) → i < n → At (replicate n y) i y
in_replicate zero y i lt = absurd (omega (arith, lt))
in_replicate (suc n) y zero lt = refl
in_replicate (suc n) y (suc i) lt = in_replicate n y i (omega (arith, lt))

pub contains_at : {X : Type 0} (n : ℕ) (xs : List X) (x : X) → At xs n x → Contains xs x
contains_at n [] x at = absurd (none-some x at)
contains_at zero (y ∷ ys) x at = (0, omega arith, same_Some y x at)
contains_at (suc n) (y ∷ ys) x at = let rest = contains_at n ys x at in (suc rest.0, omega (arith, rest.1), rest.2)

-- one item stands at a place
pub one_at : {X : Type 0} (xs : List X) (i : ℕ) (x y : X) → At xs i x → At xs i y → x ≡ y
one_at xs i x y first second = same_Some x y (sym first ∙ second)

pub same_or_not : (m n : ℕ) → (m ≡ n) ⊎ (m ≡ n → ⊥)
same_or_not m n =
    elim (cases_lt m n) [
      | inl lt ↦ inr (λ same. omega (arith, lt, same))
      | inr ge ↦ elim (cases_lt n m) [ inl gt ↦ inr (λ same. omega (arith, gt, same)) | inr le ↦ inl (omega (arith, ge, le)) ]
    ]

-- an item that isn't the last of the first k + 1 is among the first k
pub earlier : {X : Type 0} (xs : List X) (k i : ℕ) (x y : X) → At xs k y → At xs i x → i < k + 1 → (x ≡ y → ⊥) → i < k
earlier xs k i x y last at lt apart =
    elim (same_or_not i k) [
      | inl same ↦ absurd (apart (one_at xs k x y (subst (λ j. At xs j x) same at) last))
      | inr other ↦ omega (arith, lt, other)
    ]
