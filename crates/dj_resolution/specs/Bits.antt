-- Sets of numbers as bits of words.
use Rattle.std.specs.Prelude.{◌≡◌, ℕ, ◌+◌, ◌<◌, ◌≤◌, ◌/◌, ◌%◌, ◌&&◌, Bool, true, false, List, [], length, Option, Some, None, nat_eq, get_or}
use Rattle.std.specs.Int.{bit_at}
use Rattle.dj_resolution.specs.Numbers.{has}

-- the number's bit is set
abbrev pub in_bits : List ℕ → ℕ → Bool
in_bits words z = nat_eq (bit_at (get_or words (z / 64) 0) (z % 64)) 1

-- the bits of the numbers in the list are set, and no others
abbrev pub AreBits : List ℕ → List ℕ → Type 0
AreBits list words = (z : ℕ) → in_bits words z ≡ has list z

-- this many words have room for the numbers below the bound
abbrev pub words_for : ℕ → ℕ
words_for bound = bound / 64 + 1

-- for each marked class its list as bits
pub record HaveBits (lists rows : List (List ℕ)) (marks : List Bool) : Type 0 where
  pub rows_count : length rows ≡ length marks
  pub each : (k : ℕ) → get_or marks k false ≡ true → AreBits (get_or lists k []) (get_or rows k [])
  pub words : (k : ℕ) → get_or marks k false ≡ true → length (get_or rows k []) ≡ words_for (length marks)

-- where a list has a row of bits, they are the list's
pub record HaveRows (lists rows : List (List ℕ)) : Type 0 where
  pub each : (k : ℕ) → k < length lists → 0 < length (get_or rows k []) → AreBits (get_or lists k []) (get_or rows k [])

-- the number is among those of both
abbrev pub in_both : List ℕ → List ℕ → ℕ → Bool
in_both words others z = in_bits words z && in_bits others z

-- the number stands in the word at the place and is among those of both, and no higher one does
pub record IsTopIn (words others : List ℕ) (at number : ℕ) : Type 0 where
  pub own : in_both words others number ≡ true
  pub place : number / 64 ≡ at
  pub highest : (z : ℕ) → z / 64 ≡ at → in_both words others z ≡ true → z ≤ number

-- the same, or there is none
abbrev pub IsHighestIn : List ℕ → List ℕ → ℕ → Option ℕ → Type 0
IsHighestIn words others at None = (z : ℕ) → z / 64 ≡ at → in_both words others z ≡ false
IsHighestIn words others at (Some number) = IsTopIn words others at number

-- the number is among those of both, and no higher one is
pub record IsTop (words others : List ℕ) (number : ℕ) : Type 0 where
  pub own : in_both words others number ≡ true
  pub highest : (z : ℕ) → in_both words others z ≡ true → z ≤ number

-- the same, or there is none
abbrev pub IsHighest : List ℕ → List ℕ → Option ℕ → Type 0
IsHighest words others None = (z : ℕ) → in_both words others z ≡ false
IsHighest words others (Some number) = IsTop words others number
