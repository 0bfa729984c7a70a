-- Stages of work: the first stage that decides a report makes the report.
use Rattle.std.specs.Prelude.{◌⊎◌, List, [], ◌∷◌, Option, Some, None}

-- A stage decides a report, or decides none and hands on to the next stage.
abbrev pub Stage : Type 0 → Type 1
Stage A = Option A → Type 0

-- the report is the one that the first deciding stage decides
abbrev pub IsDecided : {A : Type 0} → List (Stage A) → A → Type 0
IsDecided [] report = ⊥
IsDecided (stage ∷ stages) report = stage (Some report) ⊎ (stage None × IsDecided stages report)
