-- Searches that end: an item of a list, a cut of a list, and the least place.
use Rattle.std.proofs.Common.{◌≡◌, ℕ, zero, suc, ◌+◌, ◌<◌, ◌⊎◌, inl, inr, List, [], ◌∷◌, ◌++◌, Option, Some, None, Contains, refl, sym, ap, subst, arith}
use Rattle.std.proofs.lemmas.Bool.{cases_lt}
use Rattle.std.proofs.lemmas.Option.{none-some, same_Some}
use Rattle.dj_asm_pool.proofs.Members.{none_in, in_here, in_rest, in_cases}
use Rattle.dj_asm.proofs.Deciding.{Is}

module _ {X : Type 0} where
  -- one of the list is such
  pub some_in : (P : X → Type 0) → ((x : X) → Is (P x)) → (xs : List X) → Is ((x : X) × Contains xs x × P x)
  some_in P is [] = inr (λ h. none_in h.0 h.1)
  some_in P is (x ∷ xs) = elim (is x) [
    | inl here ↦ inl (x, in_here x xs, here)
    | inr lacks ↦ elim (some_in P is xs) [
      | inl h ↦ inl (h.0, in_rest x xs h.0 h.1, h.2)
      | inr none ↦ inr (λ h. elim (in_cases x xs h.0 h.1) [ inl same ↦ lacks (subst P (sym same) h.2) | inr more ↦ none (h.0, more, h.2) ])
    ]
  ]

  -- the list, cut at an item
  pub record IsCutSo (P : List X → X → List X → Type 0) (xs : List X) : Type 0 where
    pub prefix : List X
    pub item : X
    pub rest : List X
    pub parts : xs ≡ prefix ++ item ∷ rest
    pub such : P prefix item rest

  further : (P : List X → X → List X → Type 0) (y : X) (ys : List X) → (P [] y ys → ⊥) → (IsCutSo (λ prefix item rest. P (y ∷ prefix) item rest) ys → ⊥)
      → (prefix : List X) (item : X) (rest : List X) → y ∷ ys ≡ prefix ++ item ∷ rest → P prefix item rest → ⊥
  further P y ys lacks none [] item rest e such =
      let head : item ≡ y = cc in
      let tail : rest ≡ ys = cc in
      lacks (subst (λ r. P [] y r) tail (subst (λ x. P [] x rest) head such))
  further P y ys lacks none (z ∷ prefix) item rest e such =
      let head : z ≡ y = cc in
      let tail : ys ≡ prefix ++ item ∷ rest = cc in
      none (record { prefix = prefix; item = item; rest = rest; parts = tail; such = subst (λ x. P (x ∷ prefix) item rest) head such })

  pub cut_or_not : (P : List X → X → List X → Type 0) (xs : List X) → ((prefix : List X) (item : X) (rest : List X) → xs ≡ prefix ++ item ∷ rest → Is (P prefix item rest)) → Is (IsCutSo P xs)
  cut_or_not P [] is = inr (λ c. no_cut c.prefix c.item c.rest c.parts) where
    no_cut : (prefix : List X) (item : X) (rest : List X) → [] ≡ prefix ++ item ∷ rest → ⊥
    no_cut [] item rest e = absurd cc
    no_cut (z ∷ prefix) item rest e = absurd cc
  cut_or_not P (y ∷ ys) is = elim (is [] y ys refl) [
    | inl here ↦ inl (record { prefix = []; item = y; rest = ys; parts = refl; such = here })
    | inr lacks ↦ elim (cut_or_not (λ prefix item rest. P (y ∷ prefix) item rest) ys (λ prefix item rest e. is (y ∷ prefix) item rest (ap (λ l. y ∷ l) e))) [
      | inl c ↦ inl (record { prefix = y ∷ c.prefix; item = c.item; rest = c.rest; parts = ap (λ l. y ∷ l) c.parts; such = c.such })
      | inr none ↦ inr (λ c. further P y ys lacks none c.prefix c.item c.rest c.parts c.such)
    ]
  ]

  -- what is there is such
  pub at_or_not : (P : X → Type 0) → ((x : X) → Is (P x)) → (o : Option X) → Is ((x : X) × (o ≡ Some x) × P x)
  at_or_not P is None = inr (λ h. none-some h.0 h.1)
  at_or_not P is (Some x) = elim (is x) [ inl here ↦ inl (x, refl, here) | inr lacks ↦ inr (λ h. lacks (subst P (sym (same_Some x h.0 h.1)) h.2)) ]

-- the least place at which something is such
pub record IsLeast (P : ℕ → Type 0) (place : ℕ) : Type 0 where
  pub such : P place
  pub first : (earlier : ℕ) → earlier < place → P earlier → ⊥

pub record HasLeast (P : ℕ → Type 0) : Type 0 where
  pub place : ℕ
  pub least : IsLeast P place

least_from : (P : ℕ → Type 0) → ((n : ℕ) → Is (P n)) → (n more : ℕ) → ((k : ℕ) → k < n → P k → ⊥) → HasLeast P ⊎ ((k : ℕ) → k < n + more → P k → ⊥)
least_from P is n zero none = inr (λ k lt h. none k (omega (arith, lt)) h)
least_from P is n (suc more) none = elim (is n) [
  | inl here ↦ inl (record { place = n; least = record { such = here; first = none } })
  | inr lacks ↦ elim (least_from P is (suc n) more (λ k lt h. up_to k lt h lacks)) [
    | inl found ↦ inl found
    | inr all ↦ inr (λ k lt h. all k (omega (arith, lt)) h)
  ]
] where
  up_to : (k : ℕ) → k < suc n → P k → (P n → ⊥) → ⊥
  up_to k lt h lacks = elim (cases_lt k n) [ inl earlier ↦ none k earlier h | inr ge ↦ let same : k ≡ n = omega (arith, lt, ge) in lacks (subst P same h) ]

-- below a bound there is a least place, or there is none at all
pub least_or_none : (P : ℕ → Type 0) → ((n : ℕ) → Is (P n)) → (bound : ℕ) → ((n : ℕ) → P n → n < bound) → HasLeast P ⊎ ((n : ℕ) → P n → ⊥)
least_or_none P is bound below = elim (least_from P is 0 bound (λ k lt h. absurd (omega (arith, lt)))) [
  | inl found ↦ inl found
  | inr none ↦ inr (λ n h. let lt = below n h in none n (omega (arith, lt)) h)
]
