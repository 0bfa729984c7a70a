-- A job has one report: no stage of its work both decides and hands on, and none decides two reports.
use Rattle.std.proofs.Common.{◌≡◌, ℕ, ◌+◌, ◌≤◌, List, [], ◌∷◌, ◌++◌, length, Option, Some, None, unwrap_or, refl, sym, ap, ◌∙◌, subst, inl, inr, arith}
use Rattle.std.specs.List.{AllByRecursion}
use Rattle.std.specs.Io.KnownBytes.{Appends}
use Rattle.std.proofs.lemmas.List.Sums.{sum_by-append, sum_by-cons}
use Rattle.dj_asm.proofs.OneFault.{one_fault, no_file_where_fault}
use Rattle.dj_asm.proofs.OneFile.{one_file}
use Rattle.dj_edge.specs.trusted.Held.{File, Held, bytes_at, class_files}
use Rattle.dj_edge.specs.declared.host.HostAnswer.{HostAnswer}
use Rattle.dj_edge.specs.trusted.Counts.{IsPrefix}
use Rattle.dj_edge.proofs.Lists.{cut_cases, at_cut}
use Rattle.dj_report.specs.trusted.Stages.{IsDecided}
use Rattle.dj_report.specs.Stages.{DecidesOne, DecideOne}
use Rattle.dj_report.proofs.Stages.{one_decided}
use Rattle.dj_report.specs.declared.report.Report.{Report}
use Rattle.dj_report.specs.declared.report.Report.TheVariants as reports
use Rattle.dj_report.specs.declared.report.Limit.{Limit}
use Rattle.dj_report.specs.declared.report.Limit.TheVariants as limits
use Rattle.dj_report.specs.trusted.Text.{report_text, report_status}
use Rattle.dj_class_set.specs.trusted.Limits.{most_file_bytes, most_input_bytes, most_total_bytes, total_bytes, AreWithin, IsFirstPast, IsTooLong, IsTooMuch}
use Rattle.dj_class_set.specs.trusted.Entry.{entry_name}
use Rattle.dj_class_set.proofs.OneJudgement.{check_one, run_one}
use Rattle.dj_class_set.proofs.RawJudgement.{raw_one}
use Rattle.dj_asm_source.specs.declared.error.AsmError.{AsmError}
use Rattle.dj_asm_source.specs.declared.error.AsmError.TheVariants as asm_errors
use Rattle.dj_command_line.specs.trusted.DoneJobs.{DoneJob, FolderJob, Check, Verify, Raw, OnFolder, Assemble, done_job_of}
use Rattle.djvm_cli.specs.trusted.Jobs.{folder_of, IsRawJob}
use Rattle.djvm_cli.specs.trusted.Report.{RefusesWords, CountsFiles, ReadsWhole, FindsInput, ReadsFiles, NamesFault, Assembles, judging, folder_stages, text_stages, stages, files_within, input_of}
use Rattle.djvm_cli.specs.OneReport.{HasOneReport, HasOneEnd, HasOnePrefix, HasOneAnswer}

-- ---- the limits

short_at : (files prefix : List File) (file : File) (rest : List File) → AreWithin files → files ≡ prefix ++ file ∷ rest → length file.1 ≤ most_file_bytes
short_at files prefix file rest within parts =
    at_cut (λ f. length f.1 ≤ most_file_bytes) prefix file rest (subst (AllByRecursion (λ f. length f.1 ≤ most_file_bytes)) parts within.each)

few_at : (files prefix : List File) (file : File) (rest : List File) → AreWithin files → files ≡ prefix ++ file ∷ rest → total_bytes prefix + length file.1 ≤ most_total_bytes
few_at files prefix file rest within parts =
    let size : File → ℕ = λ f. length f.1 in
    let sum : total_bytes files ≡ total_bytes prefix + total_bytes (file ∷ rest) = ap total_bytes parts ∙ sum_by-append size prefix (file ∷ rest) in
    omega (arith, sum_by-cons size file rest, within.together)

not_long : (files : List File) → AreWithin files → IsFirstPast IsTooLong files → ⊥
not_long files within past = omega (arith, short_at files past.prefix past.file past.rest within past.parts, past.past)

not_much : (files : List File) → AreWithin files → IsFirstPast IsTooMuch files → ⊥
not_much files within past = omega (arith, few_at files past.prefix past.file past.rest within past.parts, past.past.1)

not_both : (files : List File) → IsFirstPast IsTooLong files → IsFirstPast IsTooMuch files → ⊥
not_both files long much =
    elim (cut_cases long.prefix much.prefix long.file much.file long.rest much.rest (sym long.parts ∙ much.parts)) [
      | inl p ↦ omega (arith, short_at much.prefix long.prefix long.file p.0 much.before p.1, long.past)
      | inr q ↦ elim q [
        | inl same ↦ omega (arith, long.past, much.past.0, ap (λ (f : File). length f.1) same)
        | inr p ↦ omega (arith, few_at long.prefix much.prefix much.file p.0 long.before p.1, much.past.1)
      ]
    ]

-- ---- stage by stage

words_one : DecidesOne RefusesWords
words_one (Some r) (Some s) a b = ap Some (a ∙ sym b)
words_one (Some r) None a b = absurd b
words_one None s a b = absurd a

count_one : (files : List File) → DecidesOne (CountsFiles files)
count_one files (Some r) (Some s) a b = ap Some (a.0 ∙ sym b.0)
count_one files (Some r) None a b = absurd (omega (arith, a.1, b))
count_one files None (Some s) a b = absurd (omega (arith, a, b.1))
count_one files None None a b = refl

whole_one : (most : ℕ) (limit : Limit) (path : List ℕ) (found : Option (List ℕ)) → DecidesOne (ReadsWhole most limit path found)
whole_one most limit path None (Some r) (Some s) a b = ap Some (a ∙ sym b)
whole_one most limit path None (Some r) None a b = absurd b
whole_one most limit path None None s a b = absurd a
whole_one most limit path (Some bytes) (Some r) (Some s) a b = ap Some (a.0 ∙ sym b.0)
whole_one most limit path (Some bytes) (Some r) None a b = absurd (omega (arith, a.1, b))
whole_one most limit path (Some bytes) None (Some s) a b = absurd (omega (arith, a, b.1))
whole_one most limit path (Some bytes) None None a b = refl

pub job_input_one : (job : FolderJob) (held : Held) → DecidesOne (FindsInput job held)
job_input_one (Check folder) held (Some r) s a b = absurd a
job_input_one (Check folder) held None (Some s) a b = absurd b
job_input_one (Check folder) held None None a b = refl
job_input_one (Verify folder entry path most) held r s a b = whole_one most_input_bytes limits.Input path (bytes_at held path) r s a b
job_input_one (Raw folder entry path steps) held r s a b = whole_one most_input_bytes limits.Input path (bytes_at held path) r s a b

pub files_one : (files : List File) → DecidesOne (ReadsFiles files)
files_one files (Some r) (Some s) (inl a) (inl b) = ap Some (a.0 ∙ sym b.0)
files_one files (Some r) (Some s) (inl a) (inr b) = absurd (not_both files a.1 b.1)
files_one files (Some r) (Some s) (inr a) (inl b) = absurd (not_both files b.1 a.1)
files_one files (Some r) (Some s) (inr a) (inr b) = ap Some (a.0 ∙ sym b.0)
files_one files (Some r) None (inl a) within = absurd (not_long files within a.1)
files_one files (Some r) None (inr a) within = absurd (not_much files within a.1)
files_one files None (Some s) within (inl b) = absurd (not_long files within b.1)
files_one files None (Some s) within (inr b) = absurd (not_much files within b.1)
files_one files None None a b = refl

judging_one : (job : FolderJob) (files : List File) (input : List ℕ) (answers : List HostAnswer) → DecideOne (judging job files input answers)
judging_one (Check folder) files input answers = check_one files
judging_one (Verify folder entry path most) files input answers = run_one files (entry_name entry) input most
judging_one (Raw folder entry path steps) files input answers = raw_one files (entry_name entry) input steps answers

folder_stages_one : (job : FolderJob) (held : Held) (answers : List HostAnswer) → DecideOne (folder_stages job held answers)
folder_stages_one job held answers =
    let files = class_files (folder_of job) held in
    (count_one files, (job_input_one job held, (files_one files, judging_one job (files_within (folder_of job) held) (input_of job held) answers)))

-- ---- a text that is assembled

-- a fault has one report
fault_one : (e : AsmError) (r s : Report) → NamesFault e r → NamesFault e s → r ≡ s
fault_one (asm_errors.Syntax line column) r s a b = a ∙ sym b
fault_one (asm_errors.Label line) r s a b = a ∙ sym b
fault_one (asm_errors.Large line) r s a b = a ∙ sym b
fault_one asm_errors.Memory r s a b = absurd a

text_one : (text : List ℕ) → DecidesOne (Assembles text)
text_one text (Some r) (Some s) (inl a) (inl b) = ap Some (a.1 ∙ ap reports.Written (one_file text a.0 b.0 a.2 b.2) ∙ sym b.1)
text_one text (Some r) (Some s) (inl a) (inr b) = absurd (no_file_where_fault text a.0 b.0 a.2 b.2)
text_one text (Some r) (Some s) (inr a) (inl b) = absurd (no_file_where_fault text b.0 a.0 b.2 a.2)
text_one text (Some r) (Some s) (inr a) (inr b) =
    let same : a.0 ≡ b.0 = one_fault text a.0 b.0 a.2 b.2 in
    ap Some (fault_one b.0 r s (subst (λ e. NamesFault e r) same a.1) b.1)
text_one text (Some r) None a b = absurd b
text_one text None s a b = absurd a

text_stages_one : (path : List ℕ) (held : Held) → DecideOne (text_stages path held)
text_stages_one path held = (whole_one most_file_bytes limits.File path (bytes_at held path), (text_one (unwrap_or (bytes_at held path) []), tt))

-- ---- a job

stages_one : (job : Option DoneJob) (held : Held) (answers : List HostAnswer) → DecideOne (stages job held answers)
stages_one None held answers = (words_one, tt)
stages_one (Some (OnFolder job)) held answers = folder_stages_one job held answers
stages_one (Some (Assemble path)) held answers = text_stages_one path held

pub same_report : HasOneReport
same_report words held answers r s a b = one_decided (stages (done_job_of words) held answers) (stages_one (done_job_of words) held answers) r s a b

pub same_end : HasOneEnd
same_end words held answers a b old_a new_a old_b new_b first second =
    let same : first.report ≡ second.report = same_report words held answers first.report second.report first.right second.right in
    record {
      status = first.status_is ∙ ap report_status same ∙ sym second.status_is;
      text = report_text first.report;
      first = first.written;
      second = subst (λ r. Appends old_b new_b (report_text r)) (sym same) second.written;
    }

pub same_prefix : HasOnePrefix
same_prefix words held answers report old new right broken =
    let same : broken.report ≡ report = same_report words held answers broken.report report broken.right right in
    (broken.prefix, subst (λ (r : Report). IsPrefix broken.prefix (report_text r)) same broken.is_prefix, broken.written)

-- ---- of jobs that aren't raw runs

any_folder : (job : FolderJob) (held : Held) (first second : List HostAnswer) (r : Report) → (IsRawJob (Some (OnFolder job)) → ⊥) → IsDecided (folder_stages job held first) r
    → IsDecided (folder_stages job held second) r
any_folder (Check folder) held first second r other is = is
any_folder (Verify folder entry path most) held first second r other is = is
any_folder (Raw folder entry path steps) held first second r other is = absurd (other tt)

any_answers : (job : Option DoneJob) (held : Held) (first second : List HostAnswer) (r : Report) → (IsRawJob job → ⊥) → IsDecided (stages job held first) r → IsDecided (stages job held second) r
any_answers None held first second r other is = is
any_answers (Some (OnFolder job)) held first second r other is = any_folder job held first second r other is
any_answers (Some (Assemble path)) held first second r other is = is

pub any_answer : HasOneAnswer
any_answer words held first second r other is = any_answers (done_job_of words) held first second r other is
