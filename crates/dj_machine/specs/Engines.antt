-- A whole run of an engine.
use Rattle.std.specs.Prelude.{Option, Result, Ok, Err, ◌≡◌, ℕ, List, ◌++◌, length, Some, None, ⊤, false}
use Rattle.dj_names.specs.declared.run.Outcome.{Outcome}
use Rattle.dj_names.specs.declared.run.Outcome.TheVariants as outcomes
use Rattle.dj_names.specs.declared.run.Thresholds.{Thresholds}
use Rattle.dj_edge.specs.declared.host.HostAnswer.{HostAnswer}
use Rattle.dj_model.specs.trusted.Types.{Declared, Prefix}
use Rattle.dj_model.specs.trusted.State.{Terms}
use Rattle.dj_model.specs.trusted.Charging.{new_account}
use Rattle.dj_model.specs.trusted.Runs.{Report, plain_run, report_of, steps}
use Rattle.dj_image.specs.Imaged.{Imaged, program_of}
use Rattle.dj_step.specs.Machines.{Machined, counting_for, is_over, state_with, terms_of}
use Rattle.dj_machine.specs.declared.engine.Ending.{Ending}
use Rattle.dj_machine.specs.declared.engine.EngineError.{EngineError}

-- objects take at most this many bytes, and these thresholds hold where charges are counted
abbrev pub terms_by : Prefix → Thresholds → ℕ → Terms
terms_by prefix most limit = record { limit = Some limit; counting = counting_for prefix most }

abbrev pub terms_for : Imaged → Thresholds → ℕ → Terms
terms_for imaged most limit = terms_by imaged.prefix most limit

abbrev pub report_for : Ending → ℕ → Report
report_for ending taken = record { outcome = ending.outcome; costs = ending.costs; steps = ending.steps; taken = taken }

-- within `fuel` steps the model's plain run of the entry on the input ends like this, and it takes exactly the host's answers `gave`, whatever answers follow them
abbrev pub RunsPlainly : Imaged → Declared → List ℕ → Thresholds → ℕ → ℕ → List HostAnswer → Ending → Type 0
RunsPlainly imaged entry input most limit fuel gave ending = (rest : List HostAnswer)
    → plain_run (program_of imaged) imaged.prefix (terms_for imaged most limit) entry input (gave ++ rest) fuel ≡ Some (report_for ending (length gave))

-- ---- used by the code alone

-- the run hasn't ended
abbrev pub IsAtStart : Machined → Type 0
IsAtStart m = is_over m ≡ false

-- `fuel` steps of the model from the machine's state end like this, where the answers `gave` come first
abbrev pub RunsOn : Machined → ℕ → List HostAnswer → Ending → Type 0
RunsOn m fuel gave ending = (rest : List HostAnswer)
    → report_of (gave ++ rest) fuel (steps (program_of m.image) m.image.prefix (terms_of m) fuel (state_with (gave ++ rest) m)) ≡ Some (report_for ending (length gave))

-- the run ended before its first step, and nothing was charged
abbrev pub IsEndAtStart : Option Outcome → Result Ending EngineError → Type 0
IsEndAtStart None (Err e) = ⊤
IsEndAtStart (Some outcome) (Ok ending) = (ending.outcome ≡ outcome) × (ending.costs ≡ new_account.costs) × (ending.steps ≡ 0)
IsEndAtStart outcome result = ⊥

-- the ending of a machine whose run ended after n steps of this call
pub record IsEndingOf (m : Machined) (n : ℕ) (ending : Ending) : Type 0 where
  pub outcome : m.outcome ≡ Some ending.outcome
  pub costs : ending.costs ≡ m.state.account.costs
  pub steps : ending.steps ≡ n

-- the ending of a machine whose run goes on after n steps
abbrev pub IsSpentOf : Machined → ℕ → Ending → Type 0
IsSpentOf m n ending = ending ≡ record { outcome = outcomes.OutOfSteps n; costs = m.state.account.costs; steps = n }
