-- What is known of a run of files in which no rule is violated.
use Rattle.std.proofs.Common.{◌≡◌, ◌≢◌, ℕ, false, List, [], ◌∷◌, ◌++◌, length, Option, Some, IfSome, map, Result, Ok, Err, IfOk, refl, sym, ap, subst}
use Rattle.dj_edge.specs.trusted.Held.{File}
use Rattle.dj_edge.specs.declared.host.HostAnswer.{HostAnswer}
use Rattle.dj_names.specs.declared.run.Costs.{Costs}
use Rattle.dj_names.specs.trusted.Types.{Name}
use Rattle.dj_names.specs.trusted.Library.{raw_library}
use Rattle.dj_class.specs.declared.class.ClassView.{ClassView}
use Rattle.dj_class.specs.Views.{class_of}
use Rattle.dj_program.specs.trusted.Programs.{IsProgramIn}
use Rattle.dj_class_set.specs.trusted.Checked.{AreGoodFiles}
use Rattle.dj_model.specs.trusted.Types.{Prefix}
use Rattle.dj_model.specs.Sound.{IsSound}
use Rattle.dj_model.specs.Standing.{IsEntry}
use Rattle.dj_model.specs.trusted.Runs.{plain_run}
use Rattle.dj_model.specs.trusted.Runs as model_runs
use Rattle.dj_names.specs.declared.run.Outcome.{Outcome}
use Rattle.dj_names.specs.declared.run.Outcome.TheVariants as outcomes
use Rattle.dj_report.specs.trusted.Outcomes.{outcome_status}
use Rattle.dj_report.specs.declared.report.Report.{Report}
use Rattle.dj_report.specs.declared.report.Violation.{Violation}
use Rattle.dj_report.proofs.Sorted.{contains_first}
use Rattle.dj_loader.proofs.Lists.{member_none}
use Rattle.dj_image.specs.Imaged.{Imaged, program_of}
use Rattle.dj_machine.specs.declared.engine.Ending.{Ending}
use Rattle.dj_machine.specs.Engines.{RunsPlainly, report_for, terms_for}
use Rattle.dj_class_set.specs.trusted.Limits.{most_heap_bytes}
use Rattle.dj_class_set.specs.trusted.RawRules.{entry_of, AreRawViolations}
use Rattle.dj_class_set.specs.trusted.Judging.{raw_terms, RunsRaw}
use Rattle.dj_class_set.specs.trusted.Statuses.{IsAmong}
use Rattle.dj_class_set.specs.Statuses.{raw_statuses}
use Rattle.dj_sound.specs.Accepted.{IsRawAccepted}
use Rattle.dj_sound.proofs.RawAccepted.{are_raw_accepted}
use Rattle.dj_sandbox.specs.Loading.{IsImageOf}
use Rattle.dj_sandbox.proofs.Unstopped.{never_stopped}
use Rattle.dj_sandbox.specs.trusted.Runs.{AreRawRuns}
use Rattle.dj_sandbox.specs.Runs.{no_limits, run_of, is_stopped, SaysEnding, AddsRawRuns}

-- ---- the image

pub image_is : {E : Type 0} (files : List File) (views : List ClassView) (result : Result Imaged E) → AreGoodFiles files (map class_of views)
    → IfOk result (λ image. IsProgramIn raw_library (map class_of views) (program_of image)) → IfOk result (λ image. image.prefix ≡ []) → IfOk result (IsImageOf files)
image_is files views (Ok image) good program prefix = (map class_of views, good, program, prefix)
image_is files views (Err e) good program prefix = tt

-- ---- its run

module _ (files : List File) (class : Name) (imaged : Imaged) (is : IsImageOf files imaged) (silent : AreRawViolations files class []) where
  accepted : IsRawAccepted files class is.0
  accepted = are_raw_accepted files class is.0 is.1 silent

  pub image_sound : IsSound (program_of imaged) imaged.prefix
  image_sound = subst (IsSound (program_of imaged)) (sym is.3) (accepted.sound (program_of imaged) is.2)

  pub image_entry : IsEntry (program_of imaged) (entry_of class)
  image_entry = accepted.entry (program_of imaged) is.2

  module _ (input : List ℕ) (steps : ℕ) (gave : List HostAnswer) where
    none_more : (given : List HostAnswer) → given ++ [] ≡ given
    none_more [] = refl
    none_more (x ∷ given) = ap (λ (rest : List HostAnswer). x ∷ rest) (none_more given)

    plainly : (ending : Ending) → RunsPlainly imaged (entry_of class) input no_limits most_heap_bytes steps gave ending
        → plain_run (program_of imaged) [] raw_terms (entry_of class) input gave steps ≡ Some (report_for ending (length gave))
    plainly ending runs =
        subst (λ (given : List HostAnswer). plain_run (program_of imaged) [] raw_terms (entry_of class) input given steps ≡ Some (report_for ending (length gave))) (none_more gave)
        (subst (λ (prefix : Prefix). plain_run (program_of imaged) prefix (terms_for (record imaged { prefix = prefix }) no_limits most_heap_bytes) (entry_of class) input (gave ++ []) steps ≡ Some (report_for ending (length gave))) is.3
        (runs []))

    -- no charge stops it
    pub runs_unstopped : (ending : Ending) → RunsPlainly imaged (entry_of class) input no_limits most_heap_bytes steps gave ending → is_stopped ending.outcome ≡ false
    runs_unstopped ending runs =
        subst (λ (reported : Option model_runs.Report). IfSome reported (λ run. is_stopped run.outcome ≡ false)) (plainly ending runs)
        (never_stopped (program_of imaged) [] (Some most_heap_bytes) (entry_of class) input gave steps)

    pub runs_raw : (ending : Ending) (report : Report) → RunsPlainly imaged (entry_of class) input no_limits most_heap_bytes steps gave ending → SaysEnding ending report
        → RunsRaw files class input steps gave (Some report)
    runs_raw ending report runs reported = (is.0, program_of imaged, report_for ending (length gave), is.1, is.2, plainly ending runs, refl, reported)

    raw_run : (ending : Ending) → RunsPlainly imaged (entry_of class) input no_limits most_heap_bytes steps gave ending → AreRawRuns files class input steps gave (run_of ending ∷ [])
    raw_run ending runs = (silent, (is.0, program_of imaged, report_for ending (length gave), is.1, is.2, plainly ending runs, refl, refl))

    -- it is recorded after those before
    pub adds_reported : (old new : List (Costs × ℕ)) (ending : Ending) → RunsPlainly imaged (entry_of class) input no_limits most_heap_bytes steps gave ending
        → new ≡ old ++ run_of ending ∷ [] → (added : List (Costs × ℕ)) × AreRawRuns files class input steps gave added × (new ≡ old ++ added)
    adds_reported old new ending runs adds = (run_of ending ∷ [], raw_run ending runs, adds)

-- ---- its status

pub unstopped_status : (outcome : Outcome) → is_stopped outcome ≡ false → IsAmong (outcome_status outcome) raw_statuses
unstopped_status outcomes.OkNull e = refl
unstopped_status (outcomes.OkBytes bytes) e = refl
unstopped_status (outcomes.Threw class message) e = refl
unstopped_status (outcomes.Stopped charge) e = absurd cc
unstopped_status outcomes.TooDeep e = refl
unstopped_status (outcomes.Init class exception message) e = refl
unstopped_status outcomes.Link e = refl
unstopped_status (outcomes.OutOfSteps steps) e = refl
unstopped_status (outcomes.HeapFull used size) e = refl

-- ---- where a rule is violated

pub not_silent : (files : List File) (class : Name) (violations : List Violation) → AreRawViolations files class violations → violations ≢ [] → AreRawViolations files class [] → ⊥
not_silent files class [] are some silent = some refl
not_silent files class (v ∷ violations) are some silent = member_none v ((silent.all v).1 ((are.all v).0 (contains_first v violations)))

-- nothing is added where there is no memory
pub adds_nothing : {E : Type 0} (files : List File) (class : Name) (input : List ℕ) (steps : ℕ) (gave : List HostAnswer) (old : List (Costs × ℕ)) (result : Result Report E) (e : E)
    → result ≡ Err e → AddsRawRuns files class input steps gave old old result
adds_nothing files class input steps gave old result e is = subst (AddsRawRuns files class input steps gave old old) (sym is) refl

-- with another error, of files that are the same
pub errs_alike : {E D : Type 0} (files set : List File) (class : Name) (input : List ℕ) (steps : ℕ) (gave : List HostAnswer) (old new : List (Costs × ℕ)) (one : E) (result : Result Report D) (e : D)
    → files ≡ set → result ≡ Err e → AddsRawRuns files class input steps gave old new (Err one) → AddsRawRuns set class input steps gave old new result
errs_alike files set class input steps gave old new one result e same is adds =
    subst (λ (fs : List File). AddsRawRuns fs class input steps gave old new result) same (subst (AddsRawRuns files class input steps gave old new) (sym is) adds)

-- no run is added where a rule is violated
pub adds_none : (files : List File) (class : Name) (input : List ℕ) (steps : ℕ) (gave : List HostAnswer) (old : List (Costs × ℕ)) → (AreRawViolations files class [] → ⊥)
    → (added : List (Costs × ℕ)) × AreRawRuns files class input steps gave added × (old ≡ old ++ added)
adds_none files class input steps gave old violated = ([], violated, sym (nothing old)) where
  nothing : (old : List (Costs × ℕ)) → old ++ [] ≡ old
  nothing [] = refl
  nothing (x ∷ old) = ap (λ (rest : List (Costs × ℕ)). x ∷ rest) (nothing old)
