-- Beside trusted/Engine.antt: what no clause of the call `djvm` reaches.
use Rattle.std.specs.Prelude.{◌≡◌, ⊤, ℕ, List, [], ◌++◌, Option, Some, IfSome, IsSomeAnd, Result, Ok, Err}
use Rattle.dj_edge.specs.trusted.Held.{File, Held}
use Rattle.dj_edge.specs.declared.host.HostAnswer.{HostAnswer}
use Rattle.dj_names.specs.declared.run.Costs.{Costs}
use Rattle.dj_host.specs.trusted.Hosted.{given_since}
use Rattle.dj_names.specs.trusted.Types.{Name}
use Rattle.dj_sandbox.specs.trusted.Runs.{AreRawRuns}
use Rattle.dj_command_line.specs.trusted.DoneJobs.{DoneJob, FolderJob, OnFolder}
use Rattle.djvm_cli.specs.trusted.Jobs.{IsRawJob}
use Rattle.djvm_cli.specs.trusted.Engine.{AreJudgedRuns, AreRuns, AreFewRuns, AreRunsOf, AddsSuch}

-- these runs come after the earlier ones; where there is no report, none does
abbrev pub Adds : {T E : Type 0} → (List (Costs × ℕ) → Type 0) → List (Costs × ℕ) → List (Costs × ℕ) → Result T E → Type 0
Adds {T} {E} AreSuch old new (Ok report) = (runs : List (Costs × ℕ)) × AreSuch runs × (new ≡ old ++ runs)
Adds {T} {E} AreSuch old new (Err e) = new ≡ old

-- ---- used by the code alone

-- what a step of a call adds to the host's answers and to the engine's runs: such runs where it succeeds, and in every case runs that the job may make.
-- Where the job isn't `raw` it adds nothing, and where no run is made the host isn't asked
pub record Leaves {T E : Type 0} (AreSuch AreOfJob : List HostAnswer → List (Costs × ℕ) → Type 0) (IsRaw : Type 0) (NoRun : List HostAnswer → Type 0) (before after : List HostAnswer)
    (old new : List (Costs × ℕ)) (result : Result T E) : Type 0 where
  pub runs : Adds (AreSuch (given_since before after)) old new result
  pub few : AddsSuch (AreOfJob (given_since before after)) old new
  pub idle : (IsRaw → ⊥) → new ≡ old
  pub quiet : (IsRaw → ⊥) → after ≡ before
  pub unasked : NoRun (given_since before after) → after ≡ before
  pub gave : after ≡ before ++ given_since before after

-- a run of files and an input that were read, with the raw library
abbrev pub LeavesRaw : {T E : Type 0} → List File → Name → List ℕ → ℕ → List HostAnswer → List HostAnswer → List (Costs × ℕ) → List (Costs × ℕ) → Result T E → Type 0
LeavesRaw files class input steps before after old new result =
    Leaves (AreRawRuns files class input steps) (AreFewRuns class steps) ⊤ (λ answers. AreRawRuns files class input steps answers []) before after old new result

-- the judging of files and an input that were read
abbrev pub LeavesJudged : {T E : Type 0} → FolderJob → List File → List ℕ → List HostAnswer → List HostAnswer → List (Costs × ℕ) → List (Costs × ℕ) → Result T E → Type 0
LeavesJudged job files input before after old new result =
    Leaves (AreJudgedRuns job files input) (AreRunsOf (Some (OnFolder job))) (IsRawJob (Some (OnFolder job))) (λ answers. AreJudgedRuns job files input answers []) before after old new result

-- a whole job
abbrev pub LeavesJob : {T E : Type 0} → Option DoneJob → Option Held → List HostAnswer → List HostAnswer → List (Costs × ℕ) → List (Costs × ℕ) → Result T E → Type 0
LeavesJob job held before after old new result =
    Leaves (λ answers runs. IfSome held (λ h. AreRuns job h answers runs)) (AreRunsOf job) (IsRawJob job) (λ answers. IsSomeAnd held (λ h. AreRuns job h answers [])) before after old new result
