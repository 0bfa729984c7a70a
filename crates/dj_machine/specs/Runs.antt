-- Several steps of a machine.
use Rattle.std.specs.Prelude.{◌≡◌, ◌≤◌, ℕ, true, false, List, ◌++◌, Option, Some, None, IsSome}
use Rattle.dj_names.specs.declared.run.Outcome.{Outcome}
use Rattle.dj_edge.specs.declared.host.HostAnswer.{HostAnswer}
use Rattle.dj_model.specs.trusted.State.{State, Account}
use Rattle.dj_model.specs.trusted.Runs.{Ran, Going, Finished, NoStep, steps}
use Rattle.dj_image.specs.Imaged.{program_of}
use Rattle.dj_step.specs.Machines.{IsSameRun, Machined, Stays, is_over, state_with, terms_of}
use Rattle.dj_machine.specs.declared.answer.RunAnswer.{RunAnswer}
use Rattle.dj_machine.specs.declared.answer.RunAnswer.TheVariants as runs

-- what the steps of the model lead to: a state, or an outcome after n steps, with the account and the answers that are left
pub data Reported : Type 0 where
  On : State → Reported
  Over : Outcome → ℕ → Account → List HostAnswer → Reported
  -- there is no such step
  Nowhere : Reported

abbrev pub reported_of : Ran → Reported
reported_of (Going s) = On s
reported_of (Finished outcome s n) = Over outcome n s.account s.answers
reported_of NoStep = Nowhere

-- the run goes on in this state, or it has ended with this outcome after n steps
abbrev pub goes_or_over : Option Outcome → ℕ → State → Reported
goes_or_over None n s = On s
goes_or_over (Some outcome) n s = Over outcome n s.account s.answers

-- the run ended after n of at most fuel steps; it goes on after all of them; or there was no memory
abbrev pub IsAnswer : Machined → ℕ → RunAnswer → Type 0
IsAnswer m fuel (runs.Ended n) = (m.failed ≡ false) × IsSome m.outcome × (n ≤ fuel)
IsAnswer m fuel runs.Spent = (m.failed ≡ false) × (m.outcome ≡ None)
IsAnswer m fuel runs.Memory = m.failed ≡ true

-- how many steps were made, where the run has ended
abbrev pub steps_made : RunAnswer → ℕ
steps_made (runs.Ended n) = n
steps_made answer = 0

-- where the answers `gave` come first, the machine goes where the model's steps go. Nothing is said of a machine that had no memory
abbrev pub Goes : Machined → Machined → List HostAnswer → ℕ → RunAnswer → Type 0
Goes old new gave fuel answer = new.failed ≡ false → (rest : List HostAnswer)
    → reported_of (steps (program_of old.image) old.image.prefix (terms_of old) fuel (state_with (gave ++ rest) old)) ≡ goes_or_over new.outcome (steps_made answer) (state_with rest new)

-- at most fuel steps were made, and none by a machine whose run was over
pub record Runs (old new : Machined) (gave : List HostAnswer) (fuel : ℕ) (answer : RunAnswer) : Type 0 where
  pub answers : IsAnswer new fuel answer
  pub run : IsSameRun old new
  pub over : is_over old ≡ true → Stays old new gave × (steps_made answer ≡ 0)
  pub goes : is_over old ≡ false → Goes old new gave fuel answer
