-- The runs that the engine makes in a call, and how they fit the call's report.
use Rattle.std.specs.Prelude.{◌≡◌, ◌⊎◌, ⊤, ℕ, List, [], ◌∷◌, ◌++◌, Option, Some, None, IfSome, IsSomeAnd}
use Rattle.dj_edge.specs.trusted.Held.{File, Held, class_files}
use Rattle.dj_edge.specs.declared.host.HostAnswer.{HostAnswer}
use Rattle.dj_names.specs.declared.run.Costs.{Costs}
use Rattle.dj_class_set.specs.trusted.Entry.{entry_name}
use Rattle.dj_names.specs.trusted.Types.{Name}
use Rattle.dj_sandbox.specs.trusted.Runs.{IsRawRun, AreRawRuns}
use Rattle.dj_command_line.specs.trusted.DoneJobs.{DoneJob, FolderJob, Raw, OnFolder, done_job_of}
use Rattle.djvm_cli.specs.trusted.Jobs.{folder_of}
use Rattle.djvm_cli.specs.trusted.Report.{CountsFiles, FindsInput, ReadsFiles, files_within, input_of}

-- no stage before the judging decides the report
pub record Reaches (job : FolderJob) (held : Held) : Type 0 where
  pub count : CountsFiles (class_files (folder_of job) held) None
  pub input : FindsInput job held None
  pub files : ReadsFiles (class_files (folder_of job) held) None

-- the runs for files and an input that were read: that of `raw` where one is made, and none for other jobs
abbrev pub AreJudgedRuns : FolderJob → List File → List ℕ → List HostAnswer → List (Costs × ℕ) → Type 0
AreJudgedRuns (Raw folder entry path steps) files input answers runs = AreRawRuns files (entry_name entry) input steps answers runs
AreJudgedRuns job files input answers runs = runs ≡ []

-- the runs for a job on a folder with these contents
abbrev pub AreFolderRuns : FolderJob → Held → List HostAnswer → List (Costs × ℕ) → Type 0
AreFolderRuns job held answers runs =
    (Reaches job held × AreJudgedRuns job (files_within (folder_of job) held) (input_of job held) answers runs) ⊎ ((Reaches job held → ⊥) × (runs ≡ []))

abbrev pub AreRuns : Option DoneJob → Held → List HostAnswer → List (Costs × ℕ) → Type 0
AreRuns (Some (OnFolder job)) held answers runs = AreFolderRuns job held answers runs
AreRuns job held answers runs = runs ≡ []

-- where the store's contents are known, the runs of the words' job come after the earlier ones; so it is where the report was written whole
abbrev pub AddsRuns : List (List ℕ) → Option Held → List HostAnswer → List (Costs × ℕ) → List (Costs × ℕ) → Type 0
AddsRuns words held answers old new = IfSome held (λ h. (runs : List (Costs × ℕ)) × AreRuns (done_job_of words) h answers runs × (new ≡ old ++ runs))

-- the same, or no run was added; so it is in every other case
abbrev pub AddsPrefix : List (List ℕ) → Option Held → List HostAnswer → List (Costs × ℕ) → List (Costs × ℕ) → Type 0
AddsPrefix words held answers old new = (new ≡ old) ⊎ AddsRuns words held answers old new

-- a run of some class files on some input, with this entry class, of at most this many steps, which takes all of these answers
abbrev pub IsSomeRun : Name → ℕ → List HostAnswer → Costs × ℕ → Type 0
IsSomeRun class steps answers run = (files : List File) × (input : List ℕ) × IsRawRun files class input steps answers run

-- at most one such run
abbrev pub AreFewRuns : Name → ℕ → List HostAnswer → List (Costs × ℕ) → Type 0
AreFewRuns class steps answers [] = ⊤
AreFewRuns class steps answers (run ∷ []) = IsSomeRun class steps answers run
AreFewRuns class steps answers (run ∷ other ∷ more) = ⊥

-- the runs that a job may make, whatever the store holds
abbrev pub AreRunsOf : Option DoneJob → List HostAnswer → List (Costs × ℕ) → Type 0
AreRunsOf (Some (OnFolder (Raw folder entry path steps))) answers runs = AreFewRuns (entry_name entry) steps answers runs
AreRunsOf job answers runs = runs ≡ []

-- such runs come after the earlier ones
abbrev pub AddsSuch : (List (Costs × ℕ) → Type 0) → List (Costs × ℕ) → List (Costs × ℕ) → Type 0
AddsSuch AreSuch old new = (runs : List (Costs × ℕ)) × AreSuch runs × (new ≡ old ++ runs)

-- the runs that a call may make, in every case
abbrev pub AddsFew : List (List ℕ) → List HostAnswer → List (Costs × ℕ) → List (Costs × ℕ) → Type 0
AddsFew words answers old new = AddsSuch (AreRunsOf (done_job_of words) answers) old new

-- the store's contents are known, and a call with these words makes no run
abbrev pub MakesNoRun : List (List ℕ) → Option Held → List HostAnswer → Type 0
MakesNoRun words held answers = IsSomeAnd held (λ h. AreRuns (done_job_of words) h answers [])
