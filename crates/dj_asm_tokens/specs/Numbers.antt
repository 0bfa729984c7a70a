-- The reader's own: numbers in fields, digit by digit.
use Rattle.std.specs.Prelude.{ℕ, ◌+◌, ◌-◌, ◌*◌, ◌^◌, ◌==◌, ◌&&◌, ◌||◌, min, Bool, true, ℤ, int_le, List, [], ◌∷◌, length, Option, Some, None, nat_le, if◌then◌else◌}
use Rattle.std.specs.Char.{digit_value}
use Rattle.std.specs.Str.Parse.{digits_value}
use Rattle.dj_asm_tokens.specs.WordReading.{is_numeral}

pub data InField : Type 0 where
  Value : ℤ → InField
  Outside : InField
  NoNumber : InField

abbrev pub within : ℤ → ℤ → ℤ → InField
within low high n = if int_le low n && int_le n high then Value n else Outside

-- what a number is in a field from low to high
abbrev pub number_within : ℤ → ℤ → Option ℤ → InField
number_within low high None = NoNumber
number_within low high (Some n) = within low high n

-- a size as the code keeps it
abbrev pub kept : ℕ → ℕ
kept size = min size (2 ^ 64 - 1)

-- with the digits before: whether there are some, and their size
unfoldable pub digits_from : Bool → ℕ → List ℕ → Option ℕ
digits_from some size [] = if some then Some size else None
digits_from some size (u ∷ us) = if nat_le 10 (digit_value u) then None else digits_from true (kept (kept (size * 10) + digit_value u)) us

-- with the digits before: how many there are, and their number
unfoldable pub flags_from : ℕ → ℕ → List ℕ → Option ℕ
flags_from count flags [] = if count == 0 then None else Some flags
flags_from count flags (u ∷ us) = if nat_le 4 count || nat_le 16 (digit_value u) then None else flags_from (count + 1) (flags * 16 + digit_value u) us

-- the flags of a word's units
abbrev pub flags_in : List ℕ → Option ℕ
flags_in word = if is_numeral 16 word && nat_le (length word) 4 then Some (digits_value 16 word) else None
