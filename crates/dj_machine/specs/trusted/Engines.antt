-- What an engine records of a run.
use Rattle.std.specs.Prelude.{Result, Ok, Err, ◌≡◌, ℕ, List, [], ◌∷◌, ◌++◌}
use Rattle.dj_names.specs.declared.run.Costs.{Costs}
use Rattle.dj_machine.specs.declared.engine.Ending.{Ending}
use Rattle.dj_machine.specs.declared.engine.EngineError.{EngineError}

-- a run that was made to its end is added to the earlier ones
abbrev pub AddsRun : List (Costs × ℕ) → List (Costs × ℕ) → Result Ending EngineError → Type 0
AddsRun old new (Ok ending) = new ≡ old ++ (ending.costs, ending.steps) ∷ []
AddsRun old new (Err e) = new ≡ old
