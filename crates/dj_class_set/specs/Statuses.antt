-- The statuses of reports on class files.
use Rattle.std.specs.Prelude.{ℕ, List, [], ◌∷◌}

-- accepted or rejected
abbrev pub check_statuses : List ℕ
check_statuses = 0 ∷ 2 ∷ []

-- a result, an exception, rejected, a threshold, or unsupported
abbrev pub run_statuses : List ℕ
run_statuses = 0 ∷ 1 ∷ 2 ∷ 3 ∷ 75 ∷ []

-- a result, an exception, rejected, too many frames, an exception in an initialiser, a wrong class, all steps made, or the heap full
abbrev pub raw_statuses : List ℕ
raw_statuses = 0 ∷ 1 ∷ 2 ∷ 4 ∷ 5 ∷ 6 ∷ 8 ∷ 9 ∷ []
