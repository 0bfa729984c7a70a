-- How the lines that were found grow.
use Rattle.std.specs.Prelude.{List, ◌↔◌, ◌⊎◌, Contains}
use Rattle.dj_report.specs.declared.report.Violation.{Violation}

-- the new list has the old values and those that meet the condition
abbrev pub Gains : {X : Type 0} → (X → Type 0) → List X → List X → Type 0
Gains {X} IsSuch old new = (x : X) → Contains new x ↔ (Contains old x ⊎ IsSuch x)

-- the same for lines
abbrev pub Adds : (Violation → Type 0) → List Violation → List Violation → Type 0
Adds IsSuch old new = Gains IsSuch old new

-- a line of one of the parts
abbrev pub IsLineAmong : {X : Type 0} → (X → Violation → Type 0) → List X → Violation → Type 0
IsLineAmong {X} IsOwn parts v = (part : X) × Contains parts part × IsOwn part v
