-- Runs that fit a report and runs that don't, at plain values.
use Rattle.std.proofs.Common.{◌≡◌, ℕ, suc, ◌<◌, ◌≤◌, List, [], ◌∷◌, ◌++◌, length, Option, Some, None, codes, inl, inr, refl, sym, ◌∙◌, subst, arith}
use Rattle.dj_edge.specs.trusted.Held.{File, Held, class_files, bytes_at}
use Rattle.dj_edge.specs.declared.host.HostAnswer.{HostAnswer}
use Rattle.dj_names.specs.declared.run.Costs.{Costs}
use Rattle.dj_names.specs.trusted.Types.{Name}
use Rattle.dj_report.specs.declared.report.Report.{Report}
use Rattle.dj_class_set.specs.trusted.Entry.{entry_name}
use Rattle.dj_class_set.specs.trusted.Judging.{RunsRaw}
use Rattle.dj_class_set.specs.trusted.Limits.{AreWithin}
use Rattle.dj_class_set.specs.trusted.RawRules.{AreRawViolations}
use Rattle.dj_sandbox.specs.trusted.Runs.{IsRawRun}
use Rattle.dj_command_line.specs.trusted.DoneJobs.{FolderJob, Check, Raw, OnFolder, Assemble, done_job_of}
use Rattle.djvm_cli.specs.trusted.Engine.{AreRuns, AreRunsOf, AddsRuns, AddsPrefix, AddsFew, MakesNoRun}
use Rattle.djvm_cli.specs.trusted.Jobs.{IsRawJob}
use Rattle.djvm_cli.specs.trusted.Report.{FindsInput, ReadsInput, files_within, input_of}

abbrev raw_job : FolderJob
raw_job = Raw (codes "c") (codes "A") (codes "in") 5

abbrev FindsIn : Option (List ℕ) → Type 0
FindsIn found = ReadsInput (codes "in") found None

-- ---- which jobs are raw runs

raw_words : List (List ℕ)
raw_words = codes "raw" ∷ codes "c/" ∷ codes "A" ∷ codes "in" ∷ []

verify_words : List (List ℕ)
verify_words = codes "verify" ∷ codes "c/" ∷ codes "A" ∷ codes "in" ∷ []

is_raw : IsRawJob (done_job_of raw_words)
unfolding raw_words done_job_of
is_raw = tt

check_words : List (List ℕ)
check_words = codes "check" ∷ codes "c/" ∷ []

assemble_words : List (List ℕ)
assemble_words = codes "assemble" ∷ codes "t" ∷ []

-- the input is lacking
short_words : List (List ℕ)
short_words = codes "raw" ∷ codes "c/" ∷ codes "A" ∷ []

is_not_raw : IsRawJob (done_job_of verify_words) → ⊥
unfolding verify_words done_job_of
is_not_raw raw = raw

check_is_not_raw : IsRawJob (done_job_of check_words) → ⊥
unfolding check_words done_job_of
check_is_not_raw raw = raw

assemble_is_not_raw : IsRawJob (done_job_of assemble_words) → ⊥
unfolding assemble_words done_job_of
assemble_is_not_raw raw = raw

short_is_not_raw : IsRawJob (done_job_of short_words) → ⊥
unfolding short_words done_job_of
short_is_not_raw raw = raw

no_job_is_not_raw : IsRawJob None → ⊥
no_job_is_not_raw raw = raw

-- ---- other jobs have none

check_has_none : (held : Held) (answers : List HostAnswer) (run : Costs × ℕ) → AreRuns (Some (OnFolder (Check (codes "c")))) held answers (run ∷ []) → ⊥
check_has_none held answers run (inl made) = let none : run ∷ [] ≡ [] = made.1 in absurd cc
check_has_none held answers run (inr not_made) = let none : run ∷ [] ≡ [] = not_made.1 in absurd cc

assemble_has_none : (held : Held) (answers : List HostAnswer) (run : Costs × ℕ) → AreRuns (Some (Assemble (codes "t"))) held answers (run ∷ []) → ⊥
assemble_has_none held answers run none = absurd cc

no_job_has_none : (held : Held) (answers : List HostAnswer) → AreRuns None held answers []
no_job_has_none held answers = refl

-- ---- a raw run

-- there are never two
not_two : (held : Held) (answers : List HostAnswer) (a b : Costs × ℕ) → AreRuns (Some (OnFolder raw_job)) held answers (a ∷ b ∷ []) → ⊥
not_two held answers a b (inl made) = made.1
not_two held answers a b (inr not_made) = let none : a ∷ b ∷ [] ≡ [] = not_made.1 in absurd cc

-- none, where a rule is violated
none_where_rejected : (held : Held) (answers : List HostAnswer) (run : Costs × ℕ) → (AreRawViolations (files_within (codes "c") held) (entry_name (codes "A")) [] → ⊥)
    → AreRuns (Some (OnFolder raw_job)) held answers (run ∷ []) → ⊥
none_where_rejected held answers run violated (inl made) = violated made.1.0
none_where_rejected held answers run violated (inr not_made) = let none : run ∷ [] ≡ [] = not_made.1 in absurd cc

found_nowhere : (found : Option (List ℕ)) → found ≡ None → FindsIn found → ⊥
found_nowhere None absent input = input
found_nowhere (Some bytes) absent input = absurd cc

-- nor where the input isn't there, or there are too many files
none_where_absent : (held : Held) (answers : List HostAnswer) (run : Costs × ℕ) → bytes_at held (codes "in") ≡ None → AreRuns (Some (OnFolder raw_job)) held answers (run ∷ []) → ⊥
none_where_absent held answers run absent (inl made) =
    let input : FindsInput raw_job held None = made.0.input in
    found_nowhere (bytes_at held (codes "in")) absent input
none_where_absent held answers run absent (inr not_made) = let none : run ∷ [] ≡ [] = not_made.1 in absurd cc

none_where_many : (held : Held) (answers : List HostAnswer) (run : Costs × ℕ) → 4096 < length (class_files (codes "c") held) → AreRuns (Some (OnFolder raw_job)) held answers (run ∷ []) → ⊥
none_where_many held answers run many (inl made) = omega (arith, many, made.0.count)
none_where_many held answers run many (inr not_made) = let none : run ∷ [] ≡ [] = not_made.1 in absurd cc

-- one, where all is read and no rule is violated
one_where_accepted : (held : Held) (answers : List HostAnswer) (run : Costs × ℕ) → length (class_files (codes "c") held) ≡ 1 → FindsInput raw_job held None
    → AreWithin (class_files (codes "c") held) → AreRawViolations (files_within (codes "c") held) (entry_name (codes "A")) []
    → IsRawRun (files_within (codes "c") held) (entry_name (codes "A")) (input_of raw_job held) 5 answers run → AreRuns (Some (OnFolder raw_job)) held answers (run ∷ [])
one_where_accepted held answers run one input within silent made = inl (record { count = omega (arith, one); input = input; files = within }, (silent, made))

-- and then it may not be left out
not_left_out : (held : Held) (answers : List HostAnswer) → length (class_files (codes "c") held) ≡ 1 → FindsInput raw_job held None
    → AreWithin (class_files (codes "c") held) → AreRawViolations (files_within (codes "c") held) (entry_name (codes "A")) [] → AreRuns (Some (OnFolder raw_job)) held answers [] → ⊥
not_left_out held answers one input within silent (inl made) = made.1 silent
not_left_out held answers one input within silent (inr not_made) = not_made.0 (record { count = omega (arith, one); input = input; files = within })

-- ---- what a call adds

-- runs that were recorded before stay
not_forgotten : (held : Held) (answers : List HostAnswer) (run : Costs × ℕ) → AddsRuns [] (Some held) answers (run ∷ []) [] → ⊥
unfolding done_job_of
not_forgotten held answers run adds = gone adds.0 adds.2 where
  gone : (runs : List (Costs × ℕ)) → [] ≡ (run ∷ []) ++ runs → ⊥
  gone runs none = absurd cc

-- words of no job add none
none_added : (held : Held) (answers : List HostAnswer) (run : Costs × ℕ) → AddsPrefix [] (Some held) answers [] (run ∷ []) → ⊥
unfolding done_job_of
none_added held answers run (inl same) = absurd cc
none_added held answers run (inr adds) =
    let none : adds.0 ≡ [] = adds.1 in
    let is : run ∷ [] ≡ adds.0 = adds.2 in
    let gone : run ∷ [] ≡ [] = subst (λ (runs : List (Costs × ℕ)). run ∷ [] ≡ runs) none is in
    absurd cc

-- ---- where no run is made

-- where a rule is violated
no_run_where_rejected : (held : Held) (answers : List HostAnswer) → length (class_files (codes "c") held) ≡ 1 → FindsInput raw_job held None
    → AreWithin (class_files (codes "c") held) → (AreRawViolations (files_within (codes "c") held) (entry_name (codes "A")) [] → ⊥) → MakesNoRun raw_words (Some held) answers
unfolding raw_words done_job_of
no_run_where_rejected held answers one input within violated =
    let few : length (class_files (codes "c") held) ≤ 4096 = omega (arith, one) in
    inl (record { count = few; input = input; files = within }, violated)

-- where the input isn't there
no_run_where_absent : (held : Held) (answers : List HostAnswer) → bytes_at held (codes "in") ≡ None → MakesNoRun raw_words (Some held) answers
unfolding raw_words done_job_of
no_run_where_absent held answers absent = inr ((λ reaches. found_nowhere (bytes_at held (codes "in")) absent reaches.input), refl)

-- where there are too many files
no_run_where_many : (held : Held) (answers : List HostAnswer) → 4096 < length (class_files (codes "c") held) → MakesNoRun raw_words (Some held) answers
unfolding raw_words done_job_of
no_run_where_many held answers many = inr ((λ reaches. let few : length (class_files (codes "c") held) ≤ 4096 = reaches.count in omega (arith, many, few)), refl)

-- one is made where no rule is violated
a_run_where_accepted : (held : Held) (answers : List HostAnswer) → length (class_files (codes "c") held) ≡ 1 → FindsInput raw_job held None
    → AreWithin (class_files (codes "c") held) → AreRawViolations (files_within (codes "c") held) (entry_name (codes "A")) [] → MakesNoRun raw_words (Some held) answers → ⊥
unfolding raw_words done_job_of
a_run_where_accepted held answers one input within silent (inl made) = made.1 silent
a_run_where_accepted held answers one input within silent (inr not_made) =
    let few : length (class_files (codes "c") held) ≤ 4096 = omega (arith, one) in
    not_made.0 (record { count = few; input = input; files = within })

-- where the store's contents are unknown it isn't known that no run is made
not_reported : (answers : List HostAnswer) → MakesNoRun raw_words None answers → ⊥
not_reported answers none = none

-- ---- the host's answers

none_more : (answers more : List HostAnswer) → length answers ≡ length (answers ++ more) → more ≡ []
none_more [] [] e = refl
none_more [] (answer ∷ more) e = let none : 0 ≡ suc (length more) = e in absurd (omega (arith, none))
none_more (answer ∷ answers) more e = let same : suc (length answers) ≡ suc (length (answers ++ more)) = e in none_more answers more (omega (arith, same))

-- a run that took only the first of them has no more than these
none_left : (files : List File) (class : Name) (input : List ℕ) (steps : ℕ) (answers more : List HostAnswer) (report : Report)
    → (runs : RunsRaw files class input steps (answers ++ more) (Some report)) → runs.2.taken ≡ length answers → more ≡ []
none_left files class input steps answers more report runs took = none_more answers more (sym took ∙ runs.6)

-- nor is its end added with them to the runs
none_left_of_run : (files : List File) (class : Name) (input : List ℕ) (steps : ℕ) (answers more : List HostAnswer) (run : Costs × ℕ)
    → (made : IsRawRun files class input steps (answers ++ more) run) → made.2.taken ≡ length answers → more ≡ []
none_left_of_run files class input steps answers more run made took = none_more answers more (sym took ∙ made.6)

-- ---- whatever is known of the store

-- a raw run is made once at most
once_at_most : (answers : List HostAnswer) (a b : Costs × ℕ) → AreRunsOf (Some (OnFolder raw_job)) answers (a ∷ b ∷ []) → ⊥
once_at_most answers a b two = two

-- it may be that there was no memory for it
none_made : (answers : List HostAnswer) → AreRunsOf (Some (OnFolder raw_job)) answers []
none_made answers = tt

-- and it is of some class files and some input, and has taken all of the answers
made_of_some : (answers more : List HostAnswer) (run : Costs × ℕ) → (are : AreRunsOf (Some (OnFolder raw_job)) (answers ++ more) (run ∷ [])) → are.2.2.taken ≡ length answers → more ≡ []
made_of_some answers more run are took = none_left_of_run are.0 (entry_name (codes "A")) are.1 5 answers more run are.2 took

-- other jobs make none
check_makes_none : (answers : List HostAnswer) (run : Costs × ℕ) → AreRunsOf (Some (OnFolder (Check (codes "c")))) answers (run ∷ []) → ⊥
check_makes_none answers run none = absurd cc

-- runs that were recorded before stay
none_forgotten : (answers : List HostAnswer) (run : Costs × ℕ) → AddsFew [] answers (run ∷ []) [] → ⊥
none_forgotten answers run (runs, are, adds) = absurd cc
