-- What the steps of a job leave of the host's answers and of the engine's runs.
use Rattle.std.proofs.Common.{◌≡◌, ℕ, List, [], ◌∷◌, ◌++◌, Option, Some, None, IfSome, Result, Ok, Err, refl, sym, ap, ◌∙◌, subst, inl, inr, append-nil}
use Rattle.std.specs.Prelude.{◌⊎◌, ⊤, IsSomeAnd}
use Rattle.dj_edge.specs.trusted.Held.{File, Held}
use Rattle.dj_edge.specs.declared.host.HostAnswer.{HostAnswer}
use Rattle.dj_edge.proofs.Lists.{reported_so}
use Rattle.dj_names.specs.declared.run.Costs.{Costs}
use Rattle.dj_names.specs.trusted.Types.{Name}
use Rattle.dj_report.specs.declared.report.Report.{Report}
use Rattle.dj_host.specs.trusted.Hosted.{given_since}
use Rattle.dj_class_set.specs.declared.error.SandboxError.{SandboxError}
use Rattle.dj_class_set.specs.trusted.RawRules.{AreRawViolations}
use Rattle.dj_sandbox.specs.trusted.Runs.{AreRawRuns}
use Rattle.dj_sandbox.specs.Runs.{AddsRawRuns}
use Rattle.dj_command_line.specs.trusted.DoneJobs.{DoneJob, FolderJob, Check, Verify, Raw, OnFolder, Assemble}
use Rattle.djvm_cli.specs.declared.load.Stop.{Stop}
use Rattle.djvm_cli.specs.trusted.Engine.{Reaches, AreJudgedRuns, AreFolderRuns, AreRuns, AreFewRuns, AreRunsOf}
use Rattle.djvm_cli.specs.Engine.{Adds, Leaves, LeavesRaw, LeavesJudged, LeavesJob}
use Rattle.djvm_cli.specs.trusted.Jobs.{folder_of, IsRawJob}
use Rattle.djvm_cli.specs.trusted.Report.{files_within, input_of}

abbrev Made : Type 0
Made = List (Costs × ℕ)

-- ---- where the host isn't asked, and no run made

given_none : (before : List HostAnswer) → given_since before before ≡ []
given_none [] = refl
given_none (x ∷ before) = given_none before

pub gave_nothing : (before : List HostAnswer) → before ≡ before ++ given_since before before
gave_nothing before = sym (ap (λ (more : List HostAnswer). before ++ more) (given_none before) ∙ append-nil before)

adds_none : {T E : Type 0} (P : Made → Type 0) (old : Made) (r : Result T E) → P [] → Adds P old old r
adds_none P old (Ok x) p = ([], p, sym (append-nil old))
adds_none P old (Err e) p = refl

module _ {T E : Type 0} (AreSuch AreOfJob : List HostAnswer → Made → Type 0) (IsRaw : Type 0) (NoRun : List HostAnswer → Type 0) (given : List HostAnswer) (made : Made)
    (unmade : AreOfJob (given_since given given) []) where
  -- where no run is made
  leaves_all : (r : Result T E) → AreSuch (given_since given given) [] → Leaves AreSuch AreOfJob IsRaw NoRun given given made made r
  leaves_all r none = record {
    runs = adds_none (AreSuch (given_since given given)) made r none;
    few = ([], unmade, sym (append-nil made));
    idle = λ other. refl;
    quiet = λ other. refl;
    unasked = λ unrun. refl;
    gave = gave_nothing given;
  }

  -- at a fault, or for want of memory
  leaves_stopped : (r : Result T E) (e : E) → r ≡ Err e → Leaves AreSuch AreOfJob IsRaw NoRun given given made made r
  leaves_stopped r e is = subst (λ (x : Result T E). Leaves AreSuch AreOfJob IsRaw NoRun given given made made x) (sym is) (record {
    runs = refl;
    few = ([], unmade, sym (append-nil made));
    idle = λ other. refl;
    quiet = λ other. refl;
    unasked = λ unrun. refl;
    gave = gave_nothing given;
  })

-- no job asks for a run
none_of_job : (job : Option DoneJob) (answers : List HostAnswer) → AreRunsOf job answers []
none_of_job None answers = refl
none_of_job (Some (OnFolder (Check folder))) answers = refl
none_of_job (Some (OnFolder (Verify folder entry path most))) answers = refl
none_of_job (Some (OnFolder (Raw folder entry path steps))) answers = tt
none_of_job (Some (Assemble path)) answers = refl

-- ---- the judging

no_judged_run : (job : FolderJob) (files : List File) (input : List ℕ) (answers : List HostAnswer) → (IsRawJob (Some (OnFolder job)) → ⊥) → AreJudgedRuns job files input answers []
no_judged_run (Check folder) files input answers other = refl
no_judged_run (Verify folder entry path most) files input answers other = refl
no_judged_run (Raw folder entry path steps) files input answers other = absurd (other tt)

-- of a job that is no raw run
pub judged_quietly : {T E : Type 0} (job : FolderJob) (files : List File) (input : List ℕ) (given : List HostAnswer) (made : Made) (r : Result T E) → (IsRawJob (Some (OnFolder job)) → ⊥)
    → LeavesJudged job files input given given made made r
judged_quietly job files input given made r other =
    leaves_all (AreJudgedRuns job files input) (AreRunsOf (Some (OnFolder job))) (IsRawJob (Some (OnFolder job))) (λ answers. AreJudgedRuns job files input answers []) given made
    (none_of_job (Some (OnFolder job)) (given_since given given)) r (no_judged_run job files input (given_since given given) other)

-- ---- a raw run

module _ (files : List File) (class name : Name) (same : class ≡ name) (input : List ℕ) (steps : ℕ) (before after : List HostAnswer) (old new : Made)
    (quiet : (AreRawViolations files class [] → ⊥) → after ≡ before) (gave : after ≡ before ++ given_since before after) where
  abbrev AddsTo : Result Report SandboxError → Name → Type 0
  AddsTo result c = AddsRawRuns files c input steps (given_since before after) old new result

  quiet_by_name : AreRawRuns files name input steps (given_since before after) [] → after ≡ before
  quiet_by_name = subst (λ (c : Name). (AreRawViolations files c [] → ⊥) → after ≡ before) same quiet

  few_of : (answers : List HostAnswer) (runs : Made) → AreRawRuns files name input steps answers runs → AreFewRuns name steps answers runs
  few_of answers [] are = tt
  few_of answers (run ∷ []) are = (files, input, are.1)
  few_of answers (run ∷ other ∷ more) are = are

  -- where there is a report
  pub raw_reported : (report : Report) → AddsTo (Ok report) class → LeavesRaw {T = Report} {E = Stop} files name input steps before after old new (Ok report)
  raw_reported report adds = record {
    runs = reported;
    few = (reported.0, few_of (given_since before after) reported.0 reported.1, reported.2);
    idle = λ other. absurd (other tt);
    quiet = λ other. absurd (other tt);
    unasked = quiet_by_name;
    gave = gave;
  } where
    reported : AddsTo (Ok report) name
    reported = subst (AddsTo (Ok report)) same adds

  -- there was no memory
  pub raw_stopped : (e : SandboxError) (r : Result Report Stop) (stop : Stop) → r ≡ Err stop → AddsTo (Err e) class → LeavesRaw files name input steps before after old new r
  raw_stopped e r stop is adds = subst (λ (x : Result Report Stop). LeavesRaw files name input steps before after old new x) (sym is) (record {
    runs = adds;
    few = ([], tt, adds ∙ sym (append-nil old));
    idle = λ other. absurd (other tt);
    quiet = λ other. absurd (other tt);
    unasked = quiet_by_name;
    gave = gave;
  })

-- before it, for want of memory
pub raw_unmade : (files : List File) (name : Name) (input : List ℕ) (steps : ℕ) (given : List HostAnswer) (made : Made) (r : Result Report Stop) (stop : Stop) → r ≡ Err stop
    → LeavesRaw files name input steps given given made made r
raw_unmade files name input steps given made r stop is =
    leaves_stopped (AreRawRuns files name input steps) (AreFewRuns name steps) ⊤ (λ answers. AreRawRuns files name input steps answers []) given made tt r stop is

-- ---- a job on a folder

module _ (job : FolderJob) where
  abbrev reported_runs : Option Held → List HostAnswer → Made → Type 0
  reported_runs held answers runs = IfSome held (λ h. AreFolderRuns job h answers runs)

  abbrev no_run : Option Held → List HostAnswer → Type 0
  no_run held answers = IsSomeAnd held (λ h. AreFolderRuns job h answers [])

  -- a stage before the judging decides
  pub unreached : {E : Type 0} (held : Option Held) (given : List HostAnswer) (made : Made) (report : Report) → IfSome held (λ h. Reaches job h → ⊥)
      → LeavesJob {T = Report} {E = E} (Some (OnFolder job)) held given given made made (Ok report)
  unreached held given made report short =
      leaves_all (reported_runs held) (AreRunsOf (Some (OnFolder job))) (IsRawJob (Some (OnFolder job))) (no_run held) given made
      (none_of_job (Some (OnFolder job)) (given_since given given)) (Ok report)
      (reported_so held (λ h. Reaches job h → ⊥) (λ h. AreFolderRuns job h (given_since given given) []) (λ h no. inr (no, refl)) short)

  pub stopped : {T E : Type 0} (held : Option Held) (given : List HostAnswer) (made : Made) (r : Result T E) (stop : E) → r ≡ Err stop → LeavesJob (Some (OnFolder job)) held given given made made r
  stopped held given made r stop is =
      leaves_stopped (reported_runs held) (AreRunsOf (Some (OnFolder job))) (IsRawJob (Some (OnFolder job))) (no_run held) given made
      (none_of_job (Some (OnFolder job)) (given_since given given)) r stop is

  -- the files and the input that are judged are those that are held
  abbrev pub IsReached : List File → List ℕ → Held → Type 0
  IsReached set bytes h = Reaches job h × (set ≡ files_within (folder_of job) h) × (bytes ≡ input_of job h)

  module _ (set : List File) (bytes : List ℕ) where
    runs_reported : (h : Held) (answers : List HostAnswer) (runs : Made) → IsReached set bytes h → AreJudgedRuns job set bytes answers runs → AreFolderRuns job h answers runs
    runs_reported h answers runs there are =
        inl (there.0, subst (λ (files : List File). AreJudgedRuns job files (input_of job h) answers runs) there.1 (subst (λ (b : List ℕ). AreJudgedRuns job set b answers runs) there.2 are))

    none_judged : (h : Held) (answers : List HostAnswer) → IsReached set bytes h → AreFolderRuns job h answers [] → AreJudgedRuns job set bytes answers []
    none_judged h answers there (inl are) =
        subst (λ (b : List ℕ). AreJudgedRuns job set b answers []) (sym there.2)
        (subst (λ (files : List File). AreJudgedRuns job files (input_of job h) answers []) (sym there.1) are.1)
    none_judged h answers there (inr none) = absurd (none.0 there.0)

    all_reported : (held : Option Held) (answers : List HostAnswer) (runs : Made) → IfSome held (IsReached set bytes) → AreJudgedRuns job set bytes answers runs → reported_runs held answers runs
    all_reported None answers runs there are = tt
    all_reported (Some h) answers runs there are = runs_reported h answers runs there are

    none_reported : (held : Option Held) (answers : List HostAnswer) → IfSome held (IsReached set bytes) → no_run held answers → AreJudgedRuns job set bytes answers []
    none_reported None answers there none = absurd none
    none_reported (Some h) answers there none = none_judged h answers there none

    module _ {T E : Type 0} (held : Option Held) (there : IfSome held (IsReached set bytes)) where
      adds_reported : (answers : List HostAnswer) (old new : Made) (r : Result T E) → Adds (AreJudgedRuns job set bytes answers) old new r → Adds (reported_runs held answers) old new r
      adds_reported answers old new (Ok x) adds = (adds.0, all_reported held answers adds.0 there adds.1, adds.2)
      adds_reported answers old new (Err e) kept = kept

      -- they are judged
      pub reached : (before after : List HostAnswer) (old new : Made) (r : Result T E) → LeavesJudged job set bytes before after old new r
          → LeavesJob (Some (OnFolder job)) held before after old new r
      reached before after old new r left = record {
        runs = adds_reported (given_since before after) old new r left.runs;
        few = left.few;
        idle = left.idle;
        quiet = left.quiet;
        unasked = λ none. left.unasked (none_reported held (given_since before after) there none);
        gave = left.gave;
      }

-- ---- a text that is assembled, and words of no job

abbrev none_made : Made
none_made = []

no_runs : (held : Option Held) → IfSome held (λ h. none_made ≡ none_made)
no_runs None = tt
no_runs (Some h) = refl

pub assembled : {T E : Type 0} (path : List ℕ) (held : Option Held) (given : List HostAnswer) (made : Made) (r : Result T E)
    → LeavesJob (Some (Assemble path)) held given given made made r
assembled path held given made r =
    leaves_all (λ answers runs. IfSome held (λ h. AreRuns (Some (Assemble path)) h answers runs)) (AreRunsOf (Some (Assemble path))) (IsRawJob (Some (Assemble path)))
    (λ answers. IsSomeAnd held (λ h. AreRuns (Some (Assemble path)) h answers [])) given made refl r (no_runs held)

pub no_job : (job : Option DoneJob) (held : Option Held) (given : List HostAnswer) (made : Made) (r : Result Report Stop) → None ≡ job → LeavesJob job held given given made made r
no_job job held given made r none =
    subst (λ (j : Option DoneJob). LeavesJob j held given given made made r) none
    (leaves_all (λ answers runs. IfSome held (λ h. AreRuns None h answers runs)) (AreRunsOf None) (IsRawJob None) (λ answers. IsSomeAnd held (λ h. AreRuns None h answers [])) given made refl r
    (no_runs held))

pub no_words : {T E : Type 0} (job : Option DoneJob) (held : Option Held) (given : List HostAnswer) (made : Made) (stop : E) → LeavesJob {T = T} {E = E} job held given given made made (Err stop)
no_words job held given made stop =
    leaves_stopped (λ answers runs. IfSome held (λ h. AreRuns job h answers runs)) (AreRunsOf job) (IsRawJob job) (λ answers. IsSomeAnd held (λ h. AreRuns job h answers [])) given made
    (none_of_job job (given_since given given)) (Err stop) stop refl

-- ---- a call of the program

module _ (job : Option DoneJob) (answers : List HostAnswer) (old new : Made) where
  abbrev AreReported : Option Held → Made → Type 0
  AreReported held runs = IfSome held (λ h. AreRuns job h answers runs)

  abbrev AllAdded : Held → Type 0
  AllAdded h = (runs : Made) × AreRuns job h answers runs × (new ≡ old ++ runs)

  pub all_added : (held : Option Held) → ((runs : Made) × AreReported held runs × (new ≡ old ++ runs)) → IfSome held AllAdded
  all_added None adds = tt
  all_added (Some h) adds = adds

  pub prefix_added : (held : Option Held) (r : Result Report Stop) → Adds (AreReported held) old new r → IfSome held (λ h. (new ≡ old) ⊎ AllAdded h)
  prefix_added None r adds = tt
  prefix_added (Some h) (Ok report) adds = inr adds
  prefix_added (Some h) (Err e) kept = inl kept
