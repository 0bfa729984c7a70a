-- How an engine's runs and a report agree.
use Rattle.std.specs.Prelude.{◌≡◌, ℕ, Bool, true, false, List, ◌++◌, Result, Ok, Err}
use Rattle.dj_edge.specs.trusted.Held.{File}
use Rattle.dj_edge.specs.declared.host.HostAnswer.{HostAnswer}
use Rattle.dj_names.specs.declared.run.Costs.{Costs}
use Rattle.dj_names.specs.declared.run.Outcome.{Outcome}
use Rattle.dj_names.specs.declared.run.Outcome.TheVariants as outcomes
use Rattle.dj_names.specs.declared.run.Thresholds.{Thresholds}
use Rattle.dj_names.specs.trusted.Types.{Name}
use Rattle.dj_report.specs.declared.report.Report.{Report}
use Rattle.dj_report.specs.declared.report.Report.TheVariants as reports
use Rattle.dj_machine.specs.declared.engine.Ending.{Ending}
use Rattle.dj_sandbox.specs.trusted.Runs.{AreRawRuns}

-- these runs come after the earlier ones; where there was no memory, none does
abbrev pub AddsRawRuns : {E : Type 0} → List File → Name → List ℕ → ℕ → List HostAnswer → List (Costs × ℕ) → List (Costs × ℕ) → Result Report E → Type 0
AddsRawRuns {E} files class input steps answers old new (Ok report) = (added : List (Costs × ℕ)) × AreRawRuns files class input steps answers added × (new ≡ old ++ added)
AddsRawRuns {E} files class input steps answers old new (Err e) = new ≡ old

-- ---- used by the code alone

-- thresholds where no charges are counted, so that none of them matters
abbrev pub no_limits : Thresholds
no_limits = record { alloc = 0; invoke = 0; jump = 0; throw = 0 }

-- the run of an ending: its costs and its steps
abbrev pub run_of : Ending → Costs × ℕ
run_of ending = (ending.costs, ending.steps)

-- one of its charges passed its threshold
abbrev pub is_stopped : Outcome → Bool
is_stopped (outcomes.Stopped charge) = true
is_stopped _ = false

-- the report says how the run ended
abbrev pub SaysEnding : Ending → Report → Type 0
SaysEnding ending report = report ≡ reports.Raw ending.outcome ending.steps
