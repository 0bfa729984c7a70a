-- No job is without a report: each stage of its work has an answer where those before it handed on.
use Rattle.std.proofs.Common.{ℕ, List, [], length, Option, Some, None, unwrap_or, refl, inl, inr}
use Rattle.std.proofs.lemmas.Bool.{cases_lt}
use Rattle.dj_asm.proofs.FileOrFault.{file_or_fault}
use Rattle.dj_asm.specs.trusted.Texts.{TextFault}
use Rattle.dj_edge.specs.trusted.Held.{File, Held, bytes_at, class_files}
use Rattle.dj_report.specs.trusted.Stages.{IsDecided}
use Rattle.dj_report.specs.Stages.{Answers, AnswerInTurn}
use Rattle.dj_report.proofs.Stages.{some_decided}
use Rattle.dj_report.specs.declared.report.Report.{Report}
use Rattle.dj_report.specs.declared.report.Report.TheVariants as reports
use Rattle.dj_report.specs.declared.report.Limit.{Limit}
use Rattle.dj_report.specs.declared.report.Limit.TheVariants as limits
use Rattle.dj_class_set.specs.trusted.Limits.{most_files, most_file_bytes, most_input_bytes}
use Rattle.dj_class_set.specs.trusted.Entry.{entry_name}
use Rattle.dj_class_set.proofs.SomeJudgement.{check_answers, run_answers}
use Rattle.dj_asm_source.proofs.LabelTextLaws.{label_fault_or_none}
use Rattle.dj_asm_source.specs.declared.error.AsmError.{AsmError}
use Rattle.dj_asm_source.specs.declared.error.AsmError.TheVariants as asm_errors
use Rattle.dj_edge.specs.declared.host.HostAnswer.{HostAnswer}
use Rattle.dj_class_set.specs.trusted.Judging.{JudgesRaw}
use Rattle.dj_class_set.proofs.RawJudgement.{raw_rules_answer}
use Rattle.dj_sandbox.specs.Laws.{HasRawRun}
use Rattle.dj_command_line.specs.trusted.DoneJobs.{DoneJob, FolderJob, Check, Verify, Raw, OnFolder, Assemble, done_job_of}
use Rattle.djvm_cli.specs.trusted.Jobs.{folder_of, IsRawJob}
use Rattle.djvm_cli.specs.trusted.Report.{RefusesWords, CountsFiles, ReadsWhole, FindsInput, ReadsFiles, Assembles, judging, folder_stages, text_stages, stages, files_within, input_of}
use Rattle.djvm_cli.specs.OneReport.{HasSomeReport}
use Rattle.djvm_cli.proofs.SomeLimits.{limited}

words_answer : Answers RefusesWords
words_answer none = none (Some reports.Usage) refl

count_answers : (files : List File) → Answers (CountsFiles files)
count_answers files none =
    elim (cases_lt most_files (length files)) [
      | inl many ↦ none (Some (reports.Limited limits.FileCount)) (refl, many)
      | inr few ↦ none None few
    ]

whole_answers : (most : ℕ) (limit : Limit) (path : List ℕ) (found : Option (List ℕ)) → Answers (ReadsWhole most limit path found)
whole_answers most limit path None none = none (Some (reports.Absent path)) refl
whole_answers most limit path (Some bytes) none =
    elim (cases_lt most (length bytes)) [
      | inl long ↦ none (Some (reports.Limited limit)) (refl, long)
      | inr short ↦ none None short
    ]

job_input_answers : (job : FolderJob) (held : Held) → Answers (FindsInput job held)
job_input_answers (Check folder) held none = none None tt
job_input_answers (Verify folder entry path most) held none = whole_answers most_input_bytes limits.Input path (bytes_at held path) none
job_input_answers (Raw folder entry path steps) held none = whole_answers most_input_bytes limits.Input path (bytes_at held path) none

files_answer : (files : List File) → Answers (ReadsFiles files)
files_answer files none =
    elim (limited files) [
      | inl within ↦ none None within
      | inr past ↦ elim past [
        | inl long ↦ none (Some (reports.Limited limits.File)) (inl (refl, long))
        | inr much ↦ none (Some (reports.Limited limits.Total)) (inr (refl, much))
      ]
    ]

judging_answers : (job : FolderJob) (files : List File) (input : List ℕ) → (IsRawJob (Some (OnFolder job)) → ⊥) → AnswerInTurn (judging job files input [])
judging_answers (Check folder) files input other = check_answers files
judging_answers (Verify folder entry path most) files input other = run_answers files (entry_name entry) input most
judging_answers (Raw folder entry path steps) files input other = absurd (other tt)

folder_stages_answer : (job : FolderJob) (held : Held) → (IsRawJob (Some (OnFolder job)) → ⊥) → AnswerInTurn (folder_stages job held [])
folder_stages_answer job held other =
    let files = class_files (folder_of job) held in (
      count_answers files,
      λ few. (
        job_input_answers job held,
        λ found. (
          files_answer files,
          λ within.
              judging_answers job (files_within (folder_of job) held) (input_of job held) other,
        ),
      ),
    )

-- ---- a raw run

-- no report under any answers
abbrev HasNone : FolderJob → Held → Type 0
HasNone job held = (answers : List HostAnswer) (r : Report) → IsDecided (folder_stages job held answers) r → ⊥

module _ (runs : HasRawRun) (folder entry path : List ℕ) (steps : ℕ) (held : Held) (none : HasNone (Raw folder entry path steps) held) where
  abbrev raw_job : FolderJob
  raw_job = Raw folder entry path steps

  abbrev of_folder : List File
  of_folder = class_files folder held

  at_run : CountsFiles of_folder None → FindsInput raw_job held None → ReadsFiles of_folder None → (a : Option Report) → JudgesRaw (files_within folder held) (entry_name entry) a → ⊥
  at_run few found within (Some r) lines = none [] r (inr (few, inr (found, inr (within, inl lines))))
  at_run few found within None lines =
      runs (files_within folder held) (entry_name entry) (input_of raw_job held) steps lines (λ answers r run. none answers r (inr (few, inr (found, inr (within, inr (lines, inl run))))))

  at_files : CountsFiles of_folder None → FindsInput raw_job held None → (a : Option Report) → ReadsFiles of_folder a → ⊥
  at_files few found (Some r) past = none [] r (inr (few, inr (found, inl past)))
  at_files few found None within = raw_rules_answer (files_within folder held) (entry_name entry) (at_run few found within)

  at_input : CountsFiles of_folder None → (a : Option Report) → FindsInput raw_job held a → ⊥
  at_input few (Some r) absent = none [] r (inr (few, inl absent))
  at_input few None found = files_answer of_folder (at_files few found)

  at_count : (a : Option Report) → CountsFiles of_folder a → ⊥
  at_count (Some r) many = none [] r (inl many)
  at_count None few = job_input_answers raw_job held (at_input few)

  pub raw_report : ⊥
  raw_report = count_answers of_folder at_count

some_folder : HasRawRun → (job : FolderJob) (held : Held) → HasNone job held → ⊥
some_folder runs (Check folder) held none = some_decided (folder_stages (Check folder) held []) (folder_stages_answer (Check folder) held (λ raw. raw)) (none [])
some_folder runs (Verify folder entry path most) held none =
    some_decided (folder_stages (Verify folder entry path most) held []) (folder_stages_answer (Verify folder entry path most) held (λ raw. raw)) (none [])
some_folder runs (Raw folder entry path steps) held none = raw_report runs folder entry path steps held none

-- ---- a text that is assembled

-- want of memory is no fault of a text
pub no_memory_fault : (text : List ℕ) → TextFault text asm_errors.Memory → ⊥
no_memory_fault text (inl (inl fault)) = let reported = fault.reported in absurd cc
no_memory_fault text (inl (inr (inl fault))) = let reported = fault.reported in absurd cc
no_memory_fault text (inl (inr (inr fault))) = let reported = fault.reported in absurd cc
no_memory_fault text (inr (inl fault)) = let reported = fault.reported in absurd cc
no_memory_fault text (inr (inr fault)) = let reported = fault.reported in absurd cc

fault_answers : (text : List ℕ) (e : AsmError) → TextFault text e → Answers (Assembles text)
fault_answers text (asm_errors.Syntax line column) fault none = none (Some (reports.Syntax line column)) (inr (asm_errors.Syntax line column, refl, fault))
fault_answers text (asm_errors.Label line) fault none = none (Some (reports.Label line)) (inr (asm_errors.Label line, refl, fault))
fault_answers text (asm_errors.Large line) fault none = none (Some (reports.Large line)) (inr (asm_errors.Large line, refl, fault))
fault_answers text asm_errors.Memory fault none = no_memory_fault text fault

text_answers : (text : List ℕ) → Answers (Assembles text)
text_answers text none =
    elim (file_or_fault text (λ s is. label_fault_or_none text s is)) [
      | inl file ↦ none (Some (reports.Written file.0)) (inl (file.0, refl, file.1))
      | inr fault ↦ fault_answers text fault.0 fault.1 none
    ]

text_stages_answer : (path : List ℕ) (held : Held) → AnswerInTurn (text_stages path held)
text_stages_answer path held = (
  whole_answers most_file_bytes limits.File path (bytes_at held path),
  λ short. (text_answers (unwrap_or (bytes_at held path) []), λ on. on),
)

-- ---- a job

some_job : HasRawRun → (job : Option DoneJob) (held : Held) → ((answers : List HostAnswer) (r : Report) → IsDecided (stages job held answers) r → ⊥) → ⊥
some_job runs None held none = some_decided (stages None held []) (words_answer, λ on. on) (none [])
some_job runs (Some (OnFolder job)) held none = some_folder runs job held none
some_job runs (Some (Assemble path)) held none = some_decided (stages (Some (Assemble path)) held []) (text_stages_answer path held) (none [])

-- where raw runs have one
pub some_report : HasRawRun → HasSomeReport
some_report runs words held none = some_job runs (done_job_of words) held none
