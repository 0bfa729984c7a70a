-- Instructions by number and by address: an address has one number at most.
use Rattle.std.proofs.Common.{◌≡◌, ℕ, zero, suc, ◌+◌, ◌<◌, ◌≤◌, Bool, true, false, List, [], ◌∷◌, length, get_or, Option, Some, None, Ok, Err, refl, sym, ap, subst, ◌∙◌, arith, inl, inr}
use Rattle.std.specs.Prelude.{nat_eq, slice_index, Contains}
use Rattle.std.specs.List.{position, position_from}
use Rattle.std.specs.List.Sorted.{IsStrictlyIncreasing}
use Rattle.std.proofs.lemmas.Bool.{cases_lt, eqb-true, eq-eqb}
use Rattle.std.proofs.lemmas.List.{get_or_default}
use Rattle.std.proofs.lemmas.List.Kept.{AllPairs-from_increasing}
use Rattle.std.proofs.lemmas.List.Quantifiers.{position-Some}
use Rattle.std.proofs.lemmas.Iterator.Adapters.{position_from-zero}
use Rattle.dj_cursor.proofs.Steps.{cond_either}
use Rattle.dj_frames.specs.declared.read.FrameError.{FrameError}
use Rattle.dj_frames.specs.declared.read.FrameError.TheVariants as errors
use Rattle.dj_frames.specs.Refusals.{NoInstructionAt}
use Rattle.dj_frames.specs.Reading.{found_at, number_at}

-- ---- lists that rise

pub rises : (starts : List ℕ) → IsStrictlyIncreasing starts → (i j : ℕ) → i < j → j < length starts → slice_index starts i < slice_index starts j
rises starts rise i j lt within = AllPairs-from_increasing starts rise i j 0 lt within

-- no two numbers have one address
pub one_number : (starts : List ℕ) → IsStrictlyIncreasing starts → (i j : ℕ) → i < length starts → j < length starts → slice_index starts i ≡ slice_index starts j → i ≡ j
one_number starts rise i j p q same =
    elim (cases_lt i j) [
      | inl lt ↦ absurd (omega (arith, rises starts rise i j lt q, same))
      | inr le ↦ elim (cases_lt j i) [
        | inl lt ↦ absurd (omega (arith, rises starts rise j i lt p, same))
        | inr ge ↦ omega arith
      ]
    ]

-- an address is no less than its number
pub number_below : (starts : List ℕ) → IsStrictlyIncreasing starts → (i : ℕ) → i < length starts → i ≤ slice_index starts i
number_below starts rise zero within = omega arith
number_below starts rise (suc i) within =
    let before = number_below starts rise i (omega (arith, within)) in
    omega (arith, before, rises starts rise i (suc i) (omega arith) within)

-- and one whose number is found is there
pub there_from_number : (starts : List ℕ) (number address : ℕ) → number < length starts → slice_index starts number ≡ address → Contains starts address
there_from_number starts number address lt same = (number, lt, get_or_default starts number address 0 lt ∙ same)

-- ---- the number of an address

none_passes : {X : Type 0} (p : X → Bool) (from : ℕ) (xs : List X) → position_from p from xs ≡ None → (k : ℕ) (d : X) → k < length xs → p (get_or xs k d) ≡ false
none_passes p from [] h k d lt = absurd (omega (arith, lt))
none_passes p from (x ∷ xs) h zero d lt = cond_either (p x) _ _ h (λ b e. absurd cc) (λ b e. b)
none_passes p from (x ∷ xs) h (suc k) d lt = cond_either (p x) _ _ h (λ b e. absurd cc) (λ b e. none_passes p (from + 1) xs e k d (omega (arith, lt)))

abbrev pub IsLookup : List ℕ → ℕ → Option ℕ → Type 0
IsLookup starts address None = (k : ℕ) → k < length starts → slice_index starts k ≡ address → ⊥
IsLookup starts address (Some number) = (number < length starts) × (slice_index starts number ≡ address)

lookup_is : (starts : List ℕ) (address : ℕ) (found : Option ℕ) → position (nat_eq address) starts ≡ found → IsLookup starts address found
lookup_is starts address None h = λ k lt same.
    let none : nat_eq address (slice_index starts k) ≡ false = none_passes (nat_eq address) 0 starts (sym (position_from-zero (nat_eq address) starts) ∙ h) k 0 lt in
    let is : nat_eq address (slice_index starts k) ≡ true = eq-eqb _ _ (sym same) in
    absurd cc
lookup_is starts address (Some number) h =
    let s = position-Some (nat_eq address) starts number 0 h in
    (s.0, sym (eqb-true _ _ s.1))

from_found : (starts : List ℕ) (place address number : ℕ) (found : Option ℕ) → IsLookup starts address found → found_at place found ≡ Ok number → (number < length starts) × (slice_index starts number ≡ address)
from_found starts place address number None is h = absurd cc
from_found starts place address number (Some n) is h =
    let same : n ≡ number = cc in
    subst (λ (k : ℕ). IsLookup starts address (Some k)) same is

-- what reading an address says
pub number_takes : (starts : List ℕ) (place address number : ℕ) → number_at starts place address ≡ Ok number → (number < length starts) × (slice_index starts number ≡ address)
unfolding number_at
number_takes starts place address number h = from_found starts place address number (position (nat_eq address) starts) (lookup_is starts address _ refl) h

again_found : (starts : List ℕ) (place address number : ℕ) → IsStrictlyIncreasing starts → number < length starts → slice_index starts number ≡ address → (found : Option ℕ) → IsLookup starts address found → found_at place found ≡ Ok number
again_found starts place address number rise lt same None is = absurd (is number lt same)
again_found starts place address number rise lt same (Some n) is = ap Ok (one_number starts rise n number is.0 lt (is.1 ∙ sym same))

-- there is one that has the address
pub number_again : (starts : List ℕ) (place address number : ℕ) → IsStrictlyIncreasing starts → number < length starts → slice_index starts number ≡ address → number_at starts place address ≡ Ok number
unfolding number_at
number_again starts place address number rise lt same = again_found starts place address number rise lt same (position (nat_eq address) starts) (lookup_is starts address _ refl)

fails_found : (starts : List ℕ) (place address : ℕ) → (Contains starts address → ⊥) → (found : Option ℕ) → IsLookup starts address found → found_at place found ≡ Err (errors.NotAnInstruction place)
fails_found starts place address none None is = refl
fails_found starts place address none (Some n) is = absurd (none (there_from_number starts n address is.0 is.1))

missing_found : (starts : List ℕ) (place address : ℕ) (e : FrameError) → (found : Option ℕ) → IsLookup starts address found → found_at place found ≡ Err e → NoInstructionAt starts address place e
missing_found starts place address e None is h =
    let same : errors.NotAnInstruction place ≡ e = cc in
    ((λ there. is there.0 there.1 (get_or_default starts there.0 0 address there.1 ∙ there.2)), sym same)
missing_found starts place address e (Some n) is h = absurd cc

-- none has it
pub number_fails : (starts : List ℕ) (place address : ℕ) → (Contains starts address → ⊥) → number_at starts place address ≡ Err (errors.NotAnInstruction place)
unfolding number_at
number_fails starts place address none = fails_found starts place address none (position (nat_eq address) starts) (lookup_is starts address _ refl)

pub number_missing : (starts : List ℕ) (place address : ℕ) (e : FrameError) → number_at starts place address ≡ Err e → NoInstructionAt starts address place e
unfolding number_at
number_missing starts place address e h = missing_found starts place address e (position (nat_eq address) starts) (lookup_is starts address _ refl) h

-- an address that is there has a number
pub number_there : (starts : List ℕ) (place address : ℕ) → IsStrictlyIncreasing starts → Contains starts address → (number : ℕ) × (number_at starts place address ≡ Ok number)
number_there starts place address rise there =
    let at : slice_index starts there.0 ≡ address = get_or_default starts there.0 0 address there.1 ∙ there.2 in
    (there.0, number_again starts place address there.0 rise there.1 at)

-- ---- what a search says

pub never_falls : (starts : List ℕ) → IsStrictlyIncreasing starts → (i j : ℕ) → i ≤ j → j < length starts → slice_index starts i ≤ slice_index starts j
never_falls starts rise i j le within =
    elim (cases_lt i j) [
      | inl lt ↦ omega (arith, rises starts rise i j lt within)
      | inr ge ↦ let same : i ≡ j = omega arith in subst (λ (k : ℕ). slice_index starts i ≤ slice_index starts k) same (omega arith)
    ]

-- all below a place are less, and all from there on are more
pub not_between : (starts : List ℕ) (address place : ℕ) → ((k : ℕ) → k < place → slice_index starts k < address)
    → ((k : ℕ) → place ≤ k → k < length starts → address < slice_index starts k) → Contains starts address → ⊥
not_between starts address place below above there =
    let at : slice_index starts there.0 ≡ address = get_or_default starts there.0 0 address there.1 ∙ there.2 in
    elim (cases_lt there.0 place) [
      | inl lt ↦ omega (arith, below there.0 lt, at)
      | inr ge ↦ omega (arith, above there.0 ge there.1, at)
    ]

-- all are less
pub not_above : (starts : List ℕ) (address : ℕ) → ((k : ℕ) → k < length starts → slice_index starts k < address) → Contains starts address → ⊥
not_above starts address below there = not_between starts address (length starts) below (λ k le lt. omega (arith, le, lt)) there
