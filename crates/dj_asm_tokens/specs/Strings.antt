-- The reader's own: what a string's bytes begin with, after its opening quote.
use Rattle.std.specs.Prelude.{ℕ, ◌==◌, ◌<◌, ◌||◌, ⊤, List, [], ◌∷◌, length, drop, if◌then◌else◌}
use Rattle.dj_asm_tokens.specs.trusted.Words.{is_plain, begins_escape, escaped_unit}

pub data Step : Type 0 where
  -- the quote that closes the string, and the bytes after it
  Closed : List ℕ → Step
  -- a unit, and the bytes after it
  Unit : ℕ → List ℕ → Step
  -- bytes that no string has
  Broken : Step

unfoldable pub backslash_step : List ℕ → Step
backslash_step [] = Broken
backslash_step (b ∷ bs) = if (b == 34) || (b == 92) then Unit b bs else Broken

unfoldable pub byte_step : ℕ → List ℕ → Step
byte_step b bs = if b == 92 then backslash_step bs else (if is_plain b then Unit b bs else Broken)

unfoldable pub string_step : List ℕ → Step
string_step [] = Broken
string_step (b ∷ bs) =
    if b == 34 then Closed bs
    else (if begins_escape (b ∷ bs) then Unit (escaped_unit (b ∷ bs)) (drop 5 bs)
    else byte_step b bs)

-- fewer than this many bytes are left after the step
abbrev pub IsShorter : ℕ → Step → Type 0
IsShorter n (Closed rest) = length rest < n
IsShorter n (Unit unit rest) = length rest < n
IsShorter n Broken = ⊤
