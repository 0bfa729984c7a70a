-- The test whether matches rise.
use Rattle.std.proofs.Common.{◌≡◌, ℕ, zero, suc, ◌+◌, ◌-◌, ◌<◌, ◌≤◌, Bool, true, false, ◌&&◌, ℤ, ◌<ℤ◌, ◌≤ℤ◌, List, [], ◌∷◌, length, get_or, refl, sym, ap, subst, ◌∙◌, arith, inl, inr}
use Rattle.std.specs.Prelude.{int_lt, AllPairs}
use Rattle.std.specs.List.{AllByRecursion}
use Rattle.std.proofs.lemmas.Int.{ints}
use Rattle.std.proofs.lemmas.Bool.{cases_lt}
use Rattle.std.proofs.lemmas.List.{get_or_default}
use Rattle.std.proofs.lemmas.List.Kept.{AllPairs-cons}
use Rattle.std.proofs.lemmas.List.Elements.{All-from_recursion}
use Rattle.dj_ops.specs.trusted.Lookups.{rises, rises_from}

abbrev pub Pair : Type 0
Pair = ℤ × ℤ

abbrev pub IsBelow : Pair → Pair → Type 0
IsBelow a b = a.0 <ℤ b.0

pub lt_true : (a b : ℤ) → a <ℤ b → int_lt a b ≡ true
lt_true a b h = grind (arith, ints)

pub lt_false : (a b : ℤ) → b ≤ℤ a → int_lt a b ≡ false
lt_false a b h = grind (arith, ints)

pub lt_from : (a b : ℤ) → int_lt a b ≡ true → a <ℤ b
lt_from a b h = grind (arith, ints)

pub le_from : (a b : ℤ) → int_lt a b ≡ false → b ≤ℤ a
le_from a b h = grind (arith, ints)

both_true : (a b : Bool) → a ≡ true → b ≡ true → (a && b) ≡ true
both_true true b p q = q
both_true false b p q = absurd cc

first_false : (a b : Bool) → a ≡ false → (a && b) ≡ false
first_false true b p = absurd cc
first_false false b p = refl

later_false : (a b : Bool) → b ≡ false → (a && b) ≡ false
later_false true b p = p
later_false false b p = refl

pub both_from : (a b : Bool) → (a && b) ≡ true → (a ≡ true) × (b ≡ true)
both_from true b h = (refl, h)
both_from false b h = absurd cc

-- ---- each is below the next, or one is not

-- below this place each is below the next
pub record RiseTo (xs : List Pair) (n : ℕ) : Type 0 where
  pub rise : (k : ℕ) (d : Pair) → k + 1 < n → IsBelow (get_or xs k d) (get_or xs (k + 1) d)

past : (k : ℕ) → suc k + 1 ≡ suc (k + 1)
past k = omega arith

rest_rises : (x : Pair) (xs : List Pair) (n : ℕ) → RiseTo (x ∷ xs) (suc n) → RiseTo xs n
rest_rises x xs n h = record {
  rise = λ k d lt. subst (λ (m : ℕ). IsBelow (get_or xs k d) (get_or (x ∷ xs) m d)) (past k) (h.rise (suc k) d (omega arith));
}

rises_all : (x : Pair) (xs : List Pair) → RiseTo (x ∷ xs) (suc (length xs)) → rises_from x.0 xs ≡ true
rises_all x [] h = refl
rises_all x (y ∷ xs) h = both_true _ _ (lt_true _ _ (h.rise 0 x (omega arith))) (rises_all y xs (rest_rises x (y ∷ xs) (suc (length xs)) h))

pub rise_to_end : (xs : List Pair) (n : ℕ) → length xs ≤ n → RiseTo xs n → true ≡ rises xs
rise_to_end [] n le h = refl
rise_to_end (x ∷ xs) n le h = sym (rises_all x xs (record { rise = λ k d lt. h.rise k d (omega (arith, le, lt)) }))

falls_from : (x : Pair) (xs : List Pair) (k : ℕ) (d : Pair) → k + 1 < length (x ∷ xs) → (get_or (x ∷ xs) (k + 1) d).0 ≤ℤ (get_or (x ∷ xs) k d).0 → rises_from x.0 xs ≡ false
falls_from x [] k d lt h = absurd (omega (arith, lt))
falls_from x (y ∷ xs) zero d lt h = first_false _ _ (lt_false _ _ h)
falls_from x (y ∷ xs) (suc k) d lt h =
    later_false _ _ (falls_from y xs k d (omega arith) (subst (λ (n : ℕ). (get_or (x ∷ (y ∷ xs)) n d).0 ≤ℤ (get_or (y ∷ xs) k d).0) (past k) h))

pub falls : (xs : List Pair) (k : ℕ) (d : Pair) → k + 1 < length xs → (get_or xs (k + 1) d).0 ≤ℤ (get_or xs k d).0 → false ≡ rises xs
falls [] k d lt h = absurd (omega (arith, lt))
falls (x ∷ xs) k d lt h = sym (falls_from x xs k d lt h)

pub falls_at : (xs : List Pair) (i : ℕ) (d e : Pair) → 1 ≤ i → i < length xs → false ≡ int_lt (get_or xs (i - 1) d).0 (get_or xs i e).0 → false ≡ rises xs
falls_at xs i d e low lt h =
    let next : i ≡ i - 1 + 1 = omega arith in
    let same : get_or xs (i - 1) d ≡ get_or xs (i - 1) e = get_or_default xs (i - 1) d e (omega arith) in
    let down : (get_or xs i e).0 ≤ℤ (get_or xs (i - 1) e).0 = subst (λ (x : Pair). (get_or xs i e).0 ≤ℤ x.0) same (le_from _ _ (sym h)) in
    falls xs (i - 1) e (omega arith) (subst (λ (n : ℕ). (get_or xs n e).0 ≤ℤ (get_or xs (i - 1) e).0) next down)

pub rise_more : (xs : List Pair) (i : ℕ) (d e : Pair) → RiseTo xs i → 1 ≤ i → i < length xs → true ≡ int_lt (get_or xs (i - 1) d).0 (get_or xs i e).0 → RiseTo xs (i + 1)
rise_more xs i d e so_far low lt h = record {
  rise = λ k f within. elim (cases_lt (k + 1) i) [
    | inl before ↦ so_far.rise k f before
    | inr last ↦
        let here : k ≡ i - 1 = omega arith in
        let next : k + 1 ≡ i = omega arith in
        let below : (get_or xs (i - 1) d).0 <ℤ (get_or xs i e).0 = lt_from _ _ (sym h) in
        let first : get_or xs (i - 1) d ≡ get_or xs k f = get_or_default xs (i - 1) d f (omega arith) ∙ ap (λ (n : ℕ). get_or xs n f) (sym here) in
        let second : get_or xs i e ≡ get_or xs (k + 1) f = get_or_default xs i e f lt ∙ ap (λ (n : ℕ). get_or xs n f) (sym next) in
        subst (λ (x : Pair). IsBelow x (get_or xs (k + 1) f)) first (subst (λ (y : Pair). IsBelow (get_or xs (i - 1) d) y) second below)
  ];
}

-- ---- each is below all later ones

all_above : (z : ℤ) (x : Pair) (xs : List Pair) → z <ℤ x.0 → rises_from x.0 xs ≡ true → AllByRecursion (λ y. z <ℤ y.0) (x ∷ xs)
all_above z x [] lt h = (lt, tt)
all_above z x (y ∷ xs) lt h =
    let p = both_from _ _ h in
    let next : x.0 <ℤ y.0 = lt_from _ _ p.0 in
    (lt, all_above z y xs (omega (arith, ints, lt, next)) p.1)

pub rising_from : (xs : List Pair) → rises xs ≡ true → AllPairs IsBelow xs
rising_from [] h = λ i j d lt within. absurd (omega (arith, within))
rising_from (x ∷ []) h = λ i j d lt within. absurd (omega (arith, lt, within))
rising_from (x ∷ (y ∷ xs)) h =
    let p = both_from _ _ h in
    AllPairs-cons IsBelow x (y ∷ xs) (All-from_recursion (λ b. IsBelow x b) (y ∷ xs) (all_above x.0 y xs (lt_from _ _ p.0) p.1)) (rising_from (y ∷ xs) p.1)

pub rises_if : (xs : List Pair) → AllPairs IsBelow xs → rises xs ≡ true
rises_if xs h = sym (rise_to_end xs (length xs) (omega arith) (record { rise = λ k d lt. h k (k + 1) d (omega arith) lt }))
