-- The runs of the engine that fit the report of `raw`.
use Rattle.std.specs.Prelude.{◌≡◌, ℕ, List, [], ◌∷◌, length, Some}
use Rattle.dj_edge.specs.trusted.Held.{File}
use Rattle.dj_edge.specs.declared.host.HostAnswer.{HostAnswer}
use Rattle.dj_names.specs.declared.run.Costs.{Costs}
use Rattle.dj_names.specs.trusted.Types.{Name}
use Rattle.dj_names.specs.trusted.Library.{raw_library}
use Rattle.dj_class.specs.trusted.ClassFile.{ClassFile}
use Rattle.dj_model.specs.trusted.Program.{Program}
use Rattle.dj_model.specs.trusted.Runs.{plain_run}
use Rattle.dj_model.specs.trusted.Runs as model_runs
use Rattle.dj_program.specs.trusted.Programs.{IsProgramIn}
use Rattle.dj_class_set.specs.trusted.Checked.{AreGoodFiles}
use Rattle.dj_class_set.specs.trusted.RawRules.{entry_of, AreRawViolations}
use Rattle.dj_class_set.specs.trusted.Judging.{raw_terms}

-- the costs and the steps of a run of the files' entry that takes exactly these answers
abbrev pub IsRawRun : List File → Name → List ℕ → ℕ → List HostAnswer → Costs × ℕ → Type 0
IsRawRun files class input steps answers run =
    (classes : List ClassFile) × (program : Program) × (reported : model_runs.Report)
    × AreGoodFiles files classes × IsProgramIn raw_library classes program
    × (plain_run program [] raw_terms (entry_of class) input answers steps ≡ Some reported) × (reported.taken ≡ length answers)
    × (run ≡ (reported.costs, reported.steps))

-- one run where no rule is violated, and none where one is
abbrev pub AreRawRuns : List File → Name → List ℕ → ℕ → List HostAnswer → List (Costs × ℕ) → Type 0
AreRawRuns files class input steps answers [] = AreRawViolations files class [] → ⊥
AreRawRuns files class input steps answers (run ∷ []) = AreRawViolations files class [] × IsRawRun files class input steps answers run
AreRawRuns files class input steps answers (run ∷ other ∷ more) = ⊥
