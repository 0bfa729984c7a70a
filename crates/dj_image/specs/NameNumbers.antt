-- Used by the code alone: the numbers that a directory gives the texts of a pool.
use Rattle.std.specs.Prelude.{⊤, ℕ, ◌+◌, List, length, Option, Some, None, option_and_then}
use Rattle.std.specs.Borrow.{Bor}
use Rattle.dj_pool.specs.trusted.Pool.{Constant, text_at}
use Rattle.dj_numbering.specs.Links.{Numbering, number_of}
use Rattle.dj_image.specs.Indexed.{Holds}

-- the number of the text at an index, where there is a text that has one
abbrev pub name_number : Numbering → List Constant → ℕ → Option ℕ
name_number directory pool index = option_and_then (number_of directory) (text_at pool index)

-- what is kept of texts by their indexes, where there is a directory
abbrev pub AreNumbersBy : Option (Bor Numbering) → List Constant → List (Option ℕ) → Type 0
AreNumbersBy None pool kept = ⊤
AreNumbersBy (Some directory) pool kept = Holds (name_number directory.now pool) (length pool + 1) kept
