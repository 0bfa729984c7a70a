-- The runs that fit the report are the same under the same answers of the host.
use Rattle.std.proofs.Common.{◌≡◌, ℕ, List, Option, Some, None, inl, inr, sym, ◌∙◌}
use Rattle.dj_edge.specs.trusted.Held.{File, Held}
use Rattle.dj_edge.specs.declared.host.HostAnswer.{HostAnswer}
use Rattle.dj_names.specs.declared.run.Costs.{Costs}
use Rattle.dj_class_set.specs.trusted.Entry.{entry_name}
use Rattle.dj_sandbox.proofs.OneRun.{same_raw_runs}
use Rattle.dj_command_line.specs.trusted.DoneJobs.{DoneJob, FolderJob, Check, Verify, Raw, OnFolder, Assemble, done_job_of}
use Rattle.djvm_cli.specs.trusted.Engine.{AreJudgedRuns, AreFolderRuns, AreRuns}
use Rattle.djvm_cli.specs.trusted.Jobs.{folder_of}
use Rattle.djvm_cli.specs.OneReport.{HasSameRuns}
use Rattle.djvm_cli.specs.trusted.Report.{files_within, input_of}

judged_same : (job : FolderJob) (files : List File) (input : List ℕ) (answers : List HostAnswer) (first second : List (Costs × ℕ))
    → AreJudgedRuns job files input answers first → AreJudgedRuns job files input answers second → first ≡ second
judged_same (Check folder) files input answers first second a b = a ∙ sym b
judged_same (Verify folder entry path most) files input answers first second a b = a ∙ sym b
judged_same (Raw folder entry path steps) files input answers first second a b = same_raw_runs files (entry_name entry) input steps answers first second a b

folder_same : (job : FolderJob) (held : Held) (answers : List HostAnswer) (first second : List (Costs × ℕ))
    → AreFolderRuns job held answers first → AreFolderRuns job held answers second → first ≡ second
folder_same job held answers first second (inl a) (inl b) = judged_same job (files_within (folder_of job) held) (input_of job held) answers first second a.1 b.1
folder_same job held answers first second (inl a) (inr b) = absurd (b.0 a.0)
folder_same job held answers first second (inr a) (inl b) = absurd (a.0 b.0)
folder_same job held answers first second (inr a) (inr b) = a.1 ∙ sym b.1

job_same : (job : Option DoneJob) (held : Held) (answers : List HostAnswer) (first second : List (Costs × ℕ))
    → AreRuns job held answers first → AreRuns job held answers second → first ≡ second
job_same None held answers first second a b = a ∙ sym b
job_same (Some (OnFolder job)) held answers first second a b = folder_same job held answers first second a b
job_same (Some (Assemble path)) held answers first second a b = a ∙ sym b

pub same_runs : HasSameRuns
same_runs words held answers first second a b = job_same (done_job_of words) held answers first second a b
