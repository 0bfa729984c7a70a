-- Beside trusted/Stages.antt: what no clause of the call `djvm` reaches.
use Rattle.std.specs.Prelude.{◌≡◌, ⊤, List, [], ◌∷◌, Option, None}
use Rattle.dj_report.specs.trusted.Stages.{Stage}

-- the stage never both decides and hands on, and decides at most one report
abbrev pub DecidesOne : {A : Type 0} → Stage A → Type 0
DecidesOne {A} stage = (a b : Option A) → stage a → stage b → a ≡ b

-- the same for each stage
abbrev pub DecideOne : {A : Type 0} → List (Stage A) → Type 0
DecideOne [] = ⊤
DecideOne (stage ∷ stages) = DecidesOne stage × DecideOne stages

-- the stage decides a report or hands on
abbrev pub Answers : {A : Type 0} → Stage A → Type 0
Answers {A} stage = ((a : Option A) → stage a → ⊥) → ⊥

-- where all stages before it hand on, each stage decides or hands on; and the last one decides
abbrev pub AnswerInTurn : {A : Type 0} → List (Stage A) → Type 0
AnswerInTurn [] = ⊥
AnswerInTurn (stage ∷ stages) = Answers stage × (stage None → AnswerInTurn stages)
