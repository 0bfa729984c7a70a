-- The reader's own: words with what they stand for, as tables.
use Rattle.std.specs.Prelude.{ℕ, suc, ◌==◌, List, [], ◌∷◌, length, filter}
use Rattle.std.specs.Borrow.{Bor}
use Rattle.dj_asm_tokens.specs.trusted.Mnemonics.{mnemonics}

-- what a row of the code's tables shows
abbrev pub row_view : {K : Type 0} → Bor (List ℕ) × K → List ℕ × K
row_view row = (row.0.now, row.1)

-- the words with their places, counted from n
abbrev pub rows_from : ℕ → List (List ℕ) → List (List ℕ × ℕ)
rows_from n [] = []
rows_from n (w ∷ ws) = (w, n) ∷ rows_from (suc n) ws

-- the instructions whose words have this many bytes
abbrev pub rows_of_length : ℕ → List (List ℕ × ℕ)
rows_of_length n = filter (λ (row : List ℕ × ℕ). length row.0 == n) (rows_from 0 mnemonics)
