-- Counts of faults, and lists that grow.
use Rattle.std.specs.Prelude.{◌≡◌, ◌≢◌, ℕ, ◌+◌, ◌-◌, ◌^◌, ◌≤◌, min, List, ◌++◌, AllPairs}

-- the count went up, or was and is 2 ^ 64 - 1, its greatest value
abbrev pub Rose : ℕ → ℕ → Type 0
Rose before now = (before ≤ now) × (min (before + 1) (2 ^ 64 - 1) ≤ now)

-- xs is a prefix of ys
abbrev pub IsPrefix : {A : Type 0} → List A → List A → Type 0
IsPrefix {A} xs ys = (rest : List A) × (ys ≡ xs ++ rest)

-- the new list is the old one with a prefix of these after it
abbrev pub GrowsByPrefix : {A : Type 0} → List A → List A → List A → Type 0
GrowsByPrefix {A} old new all = (grown : List A) × IsPrefix grown all × (new ≡ old ++ grown)

-- no two of the texts are equal
abbrev pub AllDiffer : List (List ℕ) → Type 0
AllDiffer texts = AllPairs (λ a b. a ≢ b) texts
