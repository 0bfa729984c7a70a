-- What reading the one file of a job answers.
use Rattle.std.specs.Prelude.{◌≡◌, ℕ, ◌<◌, ◌≤◌, ⊤, List, Option, Some, None, IsSome, IsSomeAnd, length}
use Rattle.dj_edge.specs.trusted.Held.{Held}
use Rattle.dj_report.specs.declared.report.Report.TheVariants as reports
use Rattle.dj_report.specs.declared.report.Limit.TheVariants as limits
use Rattle.djvm_cli.specs.declared.load.Input.{Input}
use Rattle.djvm_cli.specs.declared.load.Input.TheVariants as inputs
use Rattle.dj_command_line.specs.trusted.DoneJobs.{FolderJob, OnFolder}
use Rattle.djvm_cli.specs.trusted.Report.{FindsInput, input_of}
use Rattle.djvm_cli.specs.Ends.{IsReportStatus}

abbrev pub IsShortInput : ℕ → Input → Type 0
IsShortInput most (inputs.Bytes bytes) = length bytes.items ≤ most
IsShortInput most _ = ⊤

-- a file is reported absent only where the store's contents are known
abbrev pub IsAbsentWhereKnown : Option Held → Input → Type 0
IsAbsentWhereKnown held (inputs.Absent path) = IsSome held
IsAbsentWhereKnown held _ = ⊤

-- the answer for what the store holds under the path
abbrev pub IsReadInput : ℕ → List ℕ → Option (List ℕ) → Input → Type 0
IsReadInput most path found (inputs.Bytes bytes) = found ≡ Some bytes.items
IsReadInput most path found (inputs.Absent absent) = (found ≡ None) × (absent ≡ path)
IsReadInput most path found inputs.TooLong = IsSomeAnd found (λ bytes. most < length bytes)

-- the stage of the input decides the report, or hands on with the input
abbrev pub IsJobInput : FolderJob → Held → Input → Type 0
IsJobInput job held (inputs.Bytes bytes) = FindsInput job held None × (bytes.items ≡ input_of job held)
IsJobInput job held (inputs.Absent path) = FindsInput job held (Some (reports.Absent path))
IsJobInput job held inputs.TooLong = FindsInput job held (Some (reports.Limited limits.Input))

-- where the report is decided here, its status is one that the job may have
abbrev pub IsInputOf : FolderJob → Option Held → Input → Type 0
IsInputOf job held (inputs.Bytes bytes) = ⊤
IsInputOf job held (inputs.Absent path) = IsReportStatus (Some (OnFolder job)) held 65
IsInputOf job held inputs.TooLong = IsReportStatus (Some (OnFolder job)) held 7
