-- Addresses that rise are searched for one.
use Rattle.std.proofs.Common.{◌≡◌, ℕ, zero, suc, ◌<◌, ◌≤◌, List, length, get_or, Contains, subst, ◌∙◌, arith, inl, inr}
use Rattle.std.proofs.lemmas.Bool.{cases_lt}
use Rattle.std.proofs.lemmas.List.{get_or_default}
use Rattle.dj_labels.specs.Passes.{IsRising}

pub never_falls : (starts : List ℕ) → IsRising starts → (i j : ℕ) → i ≤ j → j < length starts → get_or starts i 0 ≤ get_or starts j 0
never_falls starts rise i j le within =
    elim (cases_lt i j) [
      | inl lt ↦ (let less : get_or starts i 0 < get_or starts j 0 = rise i j 0 lt within in omega (arith, less))
      | inr ge ↦ let same : i ≡ j = omega arith in subst (λ (k : ℕ). get_or starts i 0 ≤ get_or starts k 0) same (omega arith)
    ]

-- an address is no less than its number
pub number_below : (starts : List ℕ) → IsRising starts → (i : ℕ) → i < length starts → i ≤ get_or starts i 0
number_below starts rise zero within = omega arith
number_below starts rise (suc i) within =
    let before = number_below starts rise i (omega (arith, within)) in
    let less : get_or starts i 0 < get_or starts (suc i) 0 = rise i (suc i) 0 (omega arith) within in
    omega (arith, before, less)

-- all below a place are less, and all from there on are more
pub not_between : (starts : List ℕ) (address place : ℕ) → ((k : ℕ) → k < place → get_or starts k 0 < address)
    → ((k : ℕ) → place ≤ k → k < length starts → address < get_or starts k 0) → Contains starts address → ⊥
not_between starts address place below above there =
    let at : get_or starts there.0 0 ≡ address = get_or_default starts there.0 0 address there.1 ∙ there.2 in
    elim (cases_lt there.0 place) [
      | inl lt ↦ omega (arith, below there.0 lt, at)
      | inr ge ↦ omega (arith, above there.0 ge there.1, at)
    ]

-- all are less
pub not_above : (starts : List ℕ) (address : ℕ) → ((k : ℕ) → k < length starts → get_or starts k 0 < address) → Contains starts address → ⊥
not_above starts address below there = not_between starts address (length starts) below (λ k le lt. omega (arith, le, lt)) there
