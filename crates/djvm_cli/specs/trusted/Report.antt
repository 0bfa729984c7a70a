-- The report of a job, for what the store holds and what the host answers (the answers matter to `raw` alone); and what the job asks of the store.
-- The report is decided in this order. First the words. Then, for a job on a folder: the number of files, the input, the limits on the files, and then
-- what the files are judged to be and how their run ends. For `assemble`: the limit on its file, and what that file means.
use Rattle.std.specs.Prelude.{◌≡◌, ℕ, ◌+◌, ◌<◌, ◌≤◌, ◌⊎◌, ⊤, List, [], ◌∷◌, ◌++◌, Option, Some, None, length, drop, map, unwrap_or}
use Rattle.dj_asm.specs.trusted.Texts.{IsTextOfBytes, TextFault}
use Rattle.dj_edge.specs.trusted.Held.{File, Held, class_files, bytes_at}
use Rattle.dj_edge.specs.declared.host.HostAnswer.{HostAnswer}
use Rattle.dj_report.specs.trusted.Stages.{Stage, IsDecided}
use Rattle.dj_report.specs.declared.report.Report.{Report}
use Rattle.dj_report.specs.declared.report.Report.TheVariants as reports
use Rattle.dj_report.specs.declared.report.Limit.{Limit}
use Rattle.dj_report.specs.declared.report.Limit.TheVariants as limits
use Rattle.dj_class_set.specs.trusted.Limits.{most_files, most_file_bytes, most_input_bytes, AreWithin, IsFirstPast, IsTooLong, IsTooMuch}
use Rattle.dj_class_set.specs.trusted.Entry.{entry_name}
use Rattle.dj_class_set.specs.trusted.Judging.{check_stages, run_stages, raw_stages}
use Rattle.dj_asm_source.specs.declared.error.AsmError.{AsmError}
use Rattle.dj_asm_source.specs.declared.error.AsmError.TheVariants as asm_errors
use Rattle.dj_command_line.specs.trusted.DoneJobs.{DoneJob, FolderJob, Check, Verify, Raw, OnFolder, Assemble, done_job_of}
use Rattle.djvm_cli.specs.trusted.Jobs.{folder_of}

-- the file, under its path within the folder
abbrev pub within_folder : List ℕ → File → File
within_folder folder file = (drop (length folder + 1) file.0, file.1)

-- the class files in the folder, under their paths within it
abbrev pub files_within : List ℕ → Held → List File
files_within folder held = map (within_folder folder) (class_files folder held)

-- the words give no job, and the report is USAGE
abbrev pub RefusesWords : Stage Report
RefusesWords (Some report) = report ≡ reports.Usage
RefusesWords None = ⊥

-- there are at most as many files as the limit allows, or the report names that limit
abbrev pub CountsFiles : List File → Stage Report
CountsFiles files (Some report) = (report ≡ reports.Limited limits.FileCount) × (most_files < length files)
CountsFiles files None = length files ≤ most_files

-- the file is there and no longer than this limit, or the report says which of these fails
abbrev pub ReadsWhole : ℕ → Limit → List ℕ → Option (List ℕ) → Stage Report
ReadsWhole most limit path None (Some report) = report ≡ reports.Absent path
ReadsWhole most limit path None None = ⊥
ReadsWhole most limit path (Some bytes) (Some report) = (report ≡ reports.Limited limit) × (most < length bytes)
ReadsWhole most limit path (Some bytes) None = length bytes ≤ most

abbrev pub ReadsInput : List ℕ → Option (List ℕ) → Stage Report
ReadsInput path found answer = ReadsWhole most_input_bytes limits.Input path found answer

-- the input of a run is read; `check` has none
abbrev pub FindsInput : FolderJob → Held → Stage Report
FindsInput (Check folder) held (Some report) = ⊥
FindsInput (Check folder) held None = ⊤
FindsInput (Verify folder entry path most) held answer = ReadsInput path (bytes_at held path) answer
FindsInput (Raw folder entry path steps) held answer = ReadsInput path (bytes_at held path) answer

-- the files are within the limits, or the report names the limit that is passed first
abbrev pub ReadsFiles : List File → Stage Report
ReadsFiles files (Some report) =
    ((report ≡ reports.Limited limits.File) × IsFirstPast IsTooLong files)
    ⊎ ((report ≡ reports.Limited limits.Total) × IsFirstPast IsTooMuch files)
ReadsFiles files None = AreWithin files

-- the bytes of the input
abbrev pub input_of : FolderJob → Held → List ℕ
input_of (Check folder) held = []
input_of (Verify folder entry path most) held = unwrap_or (bytes_at held path) []
input_of (Raw folder entry path steps) held = unwrap_or (bytes_at held path) []

-- the stages that judge files and an input that were read, and make the run, under these answers of the host
abbrev pub judging : FolderJob → List File → List ℕ → List HostAnswer → List (Stage Report)
judging (Check folder) files input answers = check_stages files
judging (Verify folder entry path most) files input answers = run_stages files (entry_name entry) input most
judging (Raw folder entry path steps) files input answers = raw_stages files (entry_name entry) input steps answers

-- the stages of a job on a folder with these contents
abbrev pub folder_stages : FolderJob → Held → List HostAnswer → List (Stage Report)
folder_stages job held answers =
    CountsFiles (class_files (folder_of job) held) ∷ FindsInput job held ∷ ReadsFiles (class_files (folder_of job) held)
    ∷ judging job (files_within (folder_of job) held) (input_of job held) answers

-- ---- `assemble`

abbrev pub ReadsText : List ℕ → Option (List ℕ) → Stage Report
ReadsText path found answer = ReadsWhole most_file_bytes limits.File path found answer

-- the report for a text's fault
abbrev pub NamesFault : AsmError → Report → Type 0
NamesFault (asm_errors.Syntax line column) report = report ≡ reports.Syntax line column
NamesFault (asm_errors.Label line) report = report ≡ reports.Label line
NamesFault (asm_errors.Large line) report = report ≡ reports.Large line
NamesFault asm_errors.Memory report = ⊥

-- the report is the class file that the text means, or the text's first fault
abbrev pub Assembles : List ℕ → Stage Report
Assembles text (Some report) =
    ((bytes : List ℕ) × (report ≡ reports.Written bytes) × IsTextOfBytes text bytes)
    ⊎ ((e : AsmError) × NamesFault e report × TextFault text e)
Assembles text None = ⊥

-- the stages of `assemble` for the file of this path, with these contents
abbrev pub text_stages : List ℕ → Held → List (Stage Report)
text_stages path held = ReadsText path (bytes_at held path) ∷ Assembles (unwrap_or (bytes_at held path) []) ∷ []

-- ---- a job

-- the stages of a job, with these contents
abbrev pub stages : Option DoneJob → Held → List HostAnswer → List (Stage Report)
stages None held answers = RefusesWords ∷ []
stages (Some (OnFolder job)) held answers = folder_stages job held answers
stages (Some (Assemble path)) held answers = text_stages path held

-- the report of the job that these words ask for, with these contents and these answers of the host
abbrev pub IsReport : List (List ℕ) → Held → List HostAnswer → Report → Type 0
IsReport words held answers report = IsDecided (stages (done_job_of words) held answers) report

-- ---- what is asked of the store

abbrev pub class_paths : List ℕ → Held → List (List ℕ)
class_paths folder held = map (λ file. file.0) (class_files folder held)

-- the path of the input, where the job has one
abbrev pub input_asks : FolderJob → List (List ℕ)
input_asks (Check folder) = []
input_asks (Verify folder entry path most) = path ∷ []
input_asks (Raw folder entry path steps) = path ∷ []

abbrev pub folder_asks : FolderJob → Held → List (List ℕ)
folder_asks job held = folder_of job ∷ (input_asks job ++ class_paths (folder_of job) held)

abbrev pub job_asks : Option DoneJob → Held → List (List ℕ)
job_asks None held = []
job_asks (Some (OnFolder job)) held = folder_asks job held
job_asks (Some (Assemble path)) held = path ∷ []

-- the folders and paths that the job asks of the store, in order
abbrev pub asks : List (List ℕ) → Held → List (List ℕ)
asks words held = job_asks (done_job_of words) held
