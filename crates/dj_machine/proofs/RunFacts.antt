-- Runs and what is reported of them, by plain values.
use Rattle.std.proofs.Common.{Ok, Err, ◌≡◌, ℕ, Bool, true, false, List, [], ◌∷◌, Option, Some, None, pos, refl, ap, arith}
use Rattle.dj_names.specs.declared.run.Costs.{Costs}
use Rattle.dj_names.specs.declared.run.Outcome.{Outcome}
use Rattle.dj_names.specs.declared.run.Outcome.TheVariants as outcomes
use Rattle.dj_edge.specs.declared.host.HostAnswer.TheVariants as hosts
use Rattle.dj_model.specs.trusted.State.{State, Uncounted}
use Rattle.dj_model.specs.trusted.Charging.{new_account}
use Rattle.dj_model.specs.trusted.Runs.{Going, Finished, NoStep, empty_heap}
use Rattle.dj_image.specs.Imaged.{Imaged}
use Rattle.dj_step.specs.Machines.{Machined}
use Rattle.dj_machine.specs.declared.answer.RunAnswer.{RunAnswer}
use Rattle.dj_machine.specs.declared.answer.RunAnswer.TheVariants as runs
use Rattle.dj_machine.specs.declared.engine.Ending.{Ending}
use Rattle.dj_machine.specs.declared.engine.EngineError.TheVariants as errors
use Rattle.dj_machine.specs.Runs.{IsAnswer, Nowhere, On, Over, Runs, goes_or_over, reported_of}
use Rattle.dj_machine.specs.trusted.Engines.{AddsRun}
use Rattle.dj_machine.specs.Engines.{IsEndAtStart, report_for}

abbrev image : Imaged
image = record { sources = []; prefix = []; arrays = []; texts = [] }

abbrev state : State
state = record { heap = empty_heap; statics = []; initialised = []; literals = []; frames = []; account = new_account; answers = [] }

abbrev machine : Option Outcome → Bool → Machined
machine outcome failed = record { image = image; limit = 9; counting = Uncounted; state = state; outcome = outcome; failed = failed }

-- ---- answers

ended_after_two : IsAnswer (machine (Some outcomes.OkNull) false) 2 (runs.Ended 2)
ended_after_two = (refl, refl, omega arith)

no_more_than_fuel : IsAnswer (machine (Some outcomes.OkNull) false) 2 (runs.Ended 3) → ⊥
no_more_than_fuel is = absurd (omega (arith, is.2))

spent_has_no_end : IsAnswer (machine (Some outcomes.OkNull) false) 2 runs.Spent → ⊥
spent_has_no_end is = absurd cc

failed_is_not_spent : IsAnswer (machine None true) 2 runs.Spent → ⊥
failed_is_not_spent is = absurd cc

-- one that has ended makes no step
no_step_after : (new : Machined) → Runs (machine (Some outcomes.OkNull) false) new [] 5 (runs.Ended 1) → ⊥
no_step_after new is = let e : 1 ≡ 0 = (is.over refl).1 in absurd (omega (arith, e))

asks_nothing_after : (new : Machined) → Runs (machine (Some outcomes.OkNull) false) new (hosts.Word (pos 1) ∷ []) 5 (runs.Ended 0) → ⊥
asks_nothing_after new is = let e : hosts.Word (pos 1) ∷ [] ≡ [] = (is.over refl).0.quiet in absurd cc

-- ---- what is reported

says : (reported_of (Going state) ≡ On state) × (reported_of (Finished outcomes.Link state 3) ≡ Over outcomes.Link 3 new_account []) × (reported_of NoStep ≡ Nowhere)
says = (refl, refl, refl)

goes_is_not_over : goes_or_over None 0 state ≡ goes_or_over (Some outcomes.OkNull) 0 state → ⊥
goes_is_not_over e = absurd cc

-- ---- engines

abbrev costs : Costs
costs = record { alloc = 1; invoke = 2; jump = 3; throw = 4 }

abbrev ending : Ending
ending = record { outcome = outcomes.OkNull; costs = costs; steps = 7 }

-- of the last run
abbrev last_steps : List (Costs × ℕ) → ℕ
last_steps [] = 0
last_steps (run ∷ runs) = run.1

adds : AddsRun [] ((costs, 7) ∷ []) (Ok ending)
adds = refl

adds_its_own : AddsRun [] ((costs, 8) ∷ []) (Ok ending) → ⊥
adds_its_own e = let f : 8 ≡ 7 = ap last_steps e in absurd (omega (arith, f))

adds_none_where_it_fails : AddsRun [] ((costs, 7) ∷ []) (Err errors.Memory) → ⊥
adds_none_where_it_fails e = absurd cc

at_start_no_step : IsEndAtStart (Some outcomes.OkNull) (Ok ending) → ⊥
at_start_no_step is = let e : 7 ≡ 0 = is.2 in absurd (omega (arith, e))

reports : report_for ending 2 ≡ record { outcome = outcomes.OkNull; costs = costs; steps = 7; taken = 2 }
reports = refl
