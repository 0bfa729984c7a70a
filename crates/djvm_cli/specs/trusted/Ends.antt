-- How a call of the program ends.
use Rattle.std.specs.Prelude.{◌≡◌, ℕ, List, [], ◌∷◌, Option, Some, IfSome, IsSome, ◌⊎◌, ◌↔◌, None}
use Rattle.std.specs.Io.KnownBytes.{Appends}
use Rattle.dj_edge.specs.trusted.Held.{Held}
use Rattle.dj_edge.specs.declared.host.HostAnswer.{HostAnswer}
use Rattle.dj_edge.specs.trusted.Counts.{Rose, IsPrefix, GrowsByPrefix}
use Rattle.dj_report.specs.declared.report.Report.{Report}
use Rattle.dj_report.specs.trusted.Text.{report_text, report_status}
use Rattle.dj_class_set.specs.trusted.Statuses.{IsAmong}
use Rattle.dj_command_line.specs.trusted.DoneJobs.{DoneJob, Check, Verify, Raw, OnFolder, Assemble, done_job_of}
use Rattle.djvm_cli.specs.trusted.Report.{IsReport, asks}

-- the store failed or lacks a file; the sink failed; there was no memory
abbrev pub read_fault : ℕ
read_fault = 65

abbrev pub write_fault : ℕ
write_fault = 66

abbrev pub no_memory : ℕ
no_memory = 67

-- where the store's contents are known, the report is the one for the words, the contents and the host's answers
abbrev pub IsRight : List (List ℕ) → Option Held → List HostAnswer → Report → Type 0
IsRight words held answers report = IfSome held (λ h. IsReport words h answers report)

-- the right report was written whole, and the status is that report's
pub record Finished (words : List (List ℕ)) (held : Option Held) (answers : List HostAnswer) (status : ℕ) (old new : Option (List ℕ)) : Type 0 where
  pub report : Report
  pub right : IsRight words held answers report
  pub written : Appends old new (report_text report)
  pub status_is : status ≡ report_status report

-- a prefix of the right report was written
pub record Broken (words : List (List ℕ)) (held : Option Held) (answers : List HostAnswer) (old new : Option (List ℕ)) : Type 0 where
  pub report : Report
  pub prefix : List ℕ
  pub right : IsRight words held answers report
  pub is_prefix : IsPrefix prefix (report_text report)
  pub written : Appends old new prefix

-- the store's count of faults rose in this call, and nothing was written
pub record ReadFault (faults_before faults_now : ℕ) (old new : Option (List ℕ)) : Type 0 where
  pub rose : Rose faults_before faults_now
  pub written : Appends old new []

-- the store failed; or its contents are known and lack INPUT or FILE, and the report says so
abbrev pub ReadEnds : List (List ℕ) → Option Held → List HostAnswer → ℕ → ℕ → Option (List ℕ) → Option (List ℕ) → Type 0
ReadEnds words held answers faults_before faults_now old new =
    ReadFault faults_before faults_now old new ⊎ (IsSome held × Finished words held answers read_fault old new)

-- the sink's count of faults rose in this call, and a prefix of the right report was written
pub record WriteFault (words : List (List ℕ)) (held : Option Held) (answers : List HostAnswer) (faults_before faults_now : ℕ) (old new : Option (List ℕ)) : Type 0 where
  pub rose : Rose faults_before faults_now
  pub broken : Broken words held answers old new

-- there was no memory, and a prefix of the right report was written, or nothing
abbrev pub OutOfMemory : List (List ℕ) → Option Held → List HostAnswer → Option (List ℕ) → Option (List ℕ) → Type 0
OutOfMemory words held answers old new = Broken words held answers old new ⊎ Appends old new []

-- the statuses of the reports of a job; 65 is that of ABSENT
abbrev pub report_statuses : Option DoneJob → List ℕ
report_statuses None = 64 ∷ []
report_statuses (Some (OnFolder (Check folder))) = 0 ∷ 2 ∷ 7 ∷ []
report_statuses (Some (OnFolder (Verify folder entry input most))) = 0 ∷ 1 ∷ 2 ∷ 3 ∷ 7 ∷ 65 ∷ 75 ∷ []
report_statuses (Some (OnFolder (Raw folder entry input steps))) = 0 ∷ 1 ∷ 2 ∷ 4 ∷ 5 ∷ 6 ∷ 7 ∷ 8 ∷ 9 ∷ 65 ∷ []
report_statuses (Some (Assemble path)) = 0 ∷ 7 ∷ 65 ∷ 68 ∷ []

-- every status with which a call with these words may end: those of its job's reports, and those for faults and want of memory
abbrev pub IsStatus : List (List ℕ) → ℕ → Type 0
IsStatus words status = IsAmong status (read_fault ∷ write_fault ∷ no_memory ∷ report_statuses (done_job_of words))

-- the status is that of USAGE exactly where the words give no job
abbrev pub MeansUsage : List (List ℕ) → ℕ → Type 0
MeansUsage words status = (status ≡ 64) ↔ (done_job_of words ≡ None)

-- what the store was asked for in this call is a prefix of what the words ask of it
abbrev pub AsksInOrder : List (List ℕ) → Option Held → List (List ℕ) → List (List ℕ) → Type 0
AsksInOrder words held old new = IfSome held (λ h. GrowsByPrefix old new (asks words h))
