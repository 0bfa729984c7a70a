-- Runs that fit a report and runs that don't, at plain values.
use Rattle.std.proofs.Common.{◌≡◌, ℕ, true, false, List, [], ◌∷◌, map, Err, refl}
use Rattle.dj_edge.specs.trusted.Held.{File}
use Rattle.dj_edge.specs.declared.host.HostAnswer.{HostAnswer}
use Rattle.dj_names.specs.declared.run.Charge.TheVariants as charges
use Rattle.dj_names.specs.declared.run.Costs.{Costs}
use Rattle.dj_names.specs.declared.run.Outcome.TheVariants as outcomes
use Rattle.dj_class_set.specs.trusted.RawRules.{AreRawViolations}
use Rattle.dj_sandbox.specs.trusted.Runs.{AreRawRuns}
use Rattle.dj_sandbox.specs.Runs.{AddsRawRuns, is_stopped}

-- no run where a rule is violated, and one where none is
no_run : (files : List File) (class input : List ℕ) (steps : ℕ) (answers : List HostAnswer) → AreRawViolations files class [] → AreRawRuns files class input steps answers [] → ⊥
no_run files class input steps answers silent violated = violated silent

a_run : (files : List File) (class input : List ℕ) (steps : ℕ) (answers : List HostAnswer) (run : Costs × ℕ) → (AreRawViolations files class [] → ⊥)
    → AreRawRuns files class input steps answers (run ∷ []) → ⊥
a_run files class input steps answers run violated reported = violated reported.0

two_runs : (files : List File) (class input : List ℕ) (steps : ℕ) (answers : List HostAnswer) (a b : Costs × ℕ) → AreRawRuns files class input steps answers (a ∷ b ∷ []) → ⊥
two_runs files class input steps answers a b reported = reported

stopped : map is_stopped (outcomes.Stopped charges.Jump ∷ outcomes.OkNull ∷ outcomes.Link ∷ outcomes.TooDeep ∷ outcomes.OutOfSteps 5 ∷ outcomes.HeapFull 16 67108880 ∷ [])
    ≡ true ∷ false ∷ false ∷ false ∷ false ∷ false ∷ []
stopped = refl

-- where there was no memory none is added
none_without_memory : (files : List File) (class input : List ℕ) (steps : ℕ) (answers : List HostAnswer) (run : Costs × ℕ) (e : ℕ)
    → AddsRawRuns {E = ℕ} files class input steps answers [] (run ∷ []) (Err e) → ⊥
none_without_memory files class input steps answers run e adds = absurd cc
