-- A run with a limit on the heap's bytes, against the run without one.
use Rattle.std.specs.Prelude.{◌≡◌, ◌⊎◌, ℕ, ◌+◌, ◌<◌, ⊤}
use Rattle.dj_names.specs.declared.run.Outcome.{Outcome}
use Rattle.dj_names.specs.declared.run.Outcome.TheVariants as outcomes
use Rattle.dj_model.specs.trusted.Step.{StepAnswer, Went, Ended, IllFormed}
use Rattle.dj_model.specs.trusted.Runs.{Ran, Going, Finished, NoStep}

-- the heap is full: with the object that didn't fit its bytes would be more than the limit
abbrev pub IsFull : ℕ → Outcome → Type 0
IsFull limit (outcomes.HeapFull used size) = limit < used + size
IsFull limit outcome = ⊥

-- ---- steps

abbrev pub AnswerFull : ℕ → StepAnswer → Type 0
AnswerFull limit (Went s) = ⊥
AnswerFull limit (Ended outcome s) = IsFull limit outcome
AnswerFull limit IllFormed = ⊥

-- the heap has more bytes than the limit
abbrev pub AnswerAbove : ℕ → StepAnswer → Type 0
AnswerAbove limit (Went s) = limit < s.heap.used
AnswerAbove limit (Ended outcome s) = limit < s.heap.used
AnswerAbove limit IllFormed = ⊤

-- the limit makes no difference; or the heap is full, and without the limit it gets more bytes than that
abbrev pub IsLimited : ℕ → StepAnswer → StepAnswer → Type 0
IsLimited limit limited free = (limited ≡ free) ⊎ (AnswerFull limit limited × AnswerAbove limit free)

-- ---- runs

abbrev pub RanFull : ℕ → Ran → Type 0
RanFull limit (Going s) = ⊥
RanFull limit (Finished outcome s n) = IsFull limit outcome
RanFull limit NoStep = ⊥

abbrev pub RanAbove : ℕ → Ran → Type 0
RanAbove limit (Going s) = limit < s.heap.used
RanAbove limit (Finished outcome s n) = limit < s.heap.used
RanAbove limit NoStep = ⊤

abbrev pub RanLimited : ℕ → Ran → Ran → Type 0
RanLimited limit limited free = (limited ≡ free) ⊎ (RanFull limit limited × RanAbove limit free)
