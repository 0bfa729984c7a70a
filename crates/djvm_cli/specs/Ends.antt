-- Beside trusted/Ends.antt: what no clause of the call `djvm` reaches.
use Rattle.std.specs.Prelude.{◌≡◌, ℕ, List, [], ◌∷◌, Option, IsSome}
use Rattle.std.specs.Io.KnownBytes.{Appends}
use Rattle.dj_edge.specs.trusted.Held.{Held}
use Rattle.dj_edge.specs.trusted.Counts.{IsPrefix}
use Rattle.dj_class_set.specs.trusted.Statuses.{IsAmong}
use Rattle.dj_command_line.specs.trusted.DoneJobs.{DoneJob}
use Rattle.djvm_cli.specs.trusted.Ends.{read_fault, write_fault, no_memory, report_statuses}

-- a prefix of the text was written
abbrev pub WritesPrefix : Option (List ℕ) → Option (List ℕ) → List ℕ → Type 0
WritesPrefix old new text = (prefix : List ℕ) × IsPrefix prefix text × Appends old new prefix

-- the status is that of a report of the job; ABSENT is reported only where the store's contents are known
abbrev pub IsReportStatus : Option DoneJob → Option Held → ℕ → Type 0
IsReportStatus job held status = IsAmong status (report_statuses job) × (status ≡ read_fault → IsSome held)

-- the result is the report's status, or that for a fault of the sink or for want of memory
abbrev pub IsWritten : ℕ → ℕ → Type 0
IsWritten status result = IsAmong result (write_fault ∷ no_memory ∷ status ∷ [])
