-- What is reported of a whole run.
use Rattle.std.proofs.Common.{Result, Ok, Err, IfOk, ◌≡◌, ◌+◌, ◌-◌, ℕ, false, List, [], ◌∷◌, ◌++◌, length, Option, Some, None, refl, ap, ◌∙◌, sym, subst, arith}
use Rattle.dj_names.specs.declared.run.Outcome.{Outcome}
use Rattle.dj_names.specs.declared.run.Outcome.TheVariants as outcomes
use Rattle.dj_names.specs.declared.run.Costs.{Costs}
use Rattle.dj_names.specs.declared.run.Thresholds.{Thresholds}
use Rattle.dj_edge.specs.declared.host.HostAnswer.{HostAnswer}
use Rattle.dj_host.specs.trusted.Hosted.{given_since}
use Rattle.dj_model.specs.trusted.Types.{Declared}
use Rattle.dj_model.specs.trusted.State.{State, Account, Counting, Terms}
use Rattle.dj_model.specs.trusted.Step.{StepAnswer, Went, Ended, IllFormed}
use Rattle.dj_model.specs.trusted.Charging.{new_account}
use Rattle.dj_model.specs.trusted.Runs.{Ran, Going, Finished, NoStep, Report, begin, from_start, plain_run, report_of, steps}
use Rattle.dj_image.specs.Imaged.{Imaged, program_of}
use Rattle.dj_step.specs.Answers as one
use Rattle.dj_step.proofs.StepLaws as step_laws
use Rattle.dj_step.specs.Machines.{Begins, EndsAtStart, Machined, counting_for, is_over, state_with, terms_of}
use Rattle.dj_machine.specs.declared.answer.RunAnswer.{RunAnswer}
use Rattle.dj_machine.specs.declared.answer.RunAnswer.TheVariants as runs
use Rattle.dj_machine.specs.declared.engine.Ending.{Ending}
use Rattle.dj_machine.specs.declared.engine.EngineError.{EngineError}
use Rattle.dj_machine.specs.Runs.{Nowhere, On, Over, Runs, goes_or_over, reported_of}
use Rattle.dj_machine.specs.Engines.{IsEndAtStart, IsEndingOf, IsSpentOf, RunsOn, RunsPlainly, report_for, terms_for}

-- ---- what the host gave

pub gave_nothing : (given : List HostAnswer) → given ≡ given ++ given_since given given
gave_nothing given = step_laws.gave_nothing given

-- ---- how many answers were taken

length_of : (gave rest : List HostAnswer) → length (gave ++ rest) ≡ length gave + length rest
length_of [] rest = omega arith
length_of (x ∷ gave) rest = let e = length_of gave rest in omega (arith, e)

taken_is : (gave rest : List HostAnswer) → length (gave ++ rest) - length rest ≡ length gave
taken_is gave rest = let e = length_of gave rest in omega (arith, e)

none_taken : (rest : List HostAnswer) → length rest - length rest ≡ 0
none_taken rest = omega arith

-- ---- what is reported

abbrev report : Outcome → Costs → ℕ → ℕ → Report
report outcome costs made taken = record { outcome = outcome; costs = costs; steps = made; taken = taken }

report_over : (ran : Ran) (all left : List HostAnswer) (fuel made : ℕ) (outcome : Outcome) (account : Account) → reported_of ran ≡ Over outcome made account left
    → report_of all fuel ran ≡ Some (report outcome account.costs made (length all - length left))
report_over (Going s) all left fuel made outcome account e = absurd cc
report_over (Finished o s n) all left fuel made outcome account e =
    let a : o ≡ outcome = cc in let b : s.account ≡ account = cc in let c : n ≡ made = cc in let d : s.answers ≡ left = cc in
    ap (λ (x : Outcome). Some (report x s.account.costs n (length all - length s.answers))) a
    ∙ ap (λ (x : Account). Some (report outcome x.costs n (length all - length s.answers))) b
    ∙ ap (λ (x : ℕ). Some (report outcome account.costs x (length all - length s.answers))) c
    ∙ ap (λ (x : List HostAnswer). Some (report outcome account.costs made (length all - length x))) d
report_over NoStep all left fuel made outcome account e = absurd cc

report_on : (ran : Ran) (all : List HostAnswer) (fuel : ℕ) (s : State) → reported_of ran ≡ On s
    → report_of all fuel ran ≡ Some (report (outcomes.OutOfSteps fuel) s.account.costs fuel (length all - length s.answers))
report_on (Going t) all fuel s e =
    let a : t ≡ s = cc in ap (λ (x : State). Some (report (outcomes.OutOfSteps fuel) x.account.costs fuel (length all - length x.answers))) a
report_on (Finished o t n) all fuel s e = absurd cc
report_on NoStep all fuel s e = absurd cc

-- ---- a machine's run

pub ended_on : (old new : Machined) (gave : List HostAnswer) (fuel made : ℕ) (ending : Ending) → is_over old ≡ false → Runs old new gave fuel (runs.Ended made) → IsEndingOf new made ending
    → RunsOn old fuel gave ending
ended_on old new gave fuel made ending on is end = λ rest.
    report_over (steps (program_of old.image) old.image.prefix (terms_of old) fuel (state_with (gave ++ rest) old)) (gave ++ rest) rest fuel made ending.outcome new.state.account
    (is.goes on is.answers.0 rest ∙ ap (λ (o : Option Outcome). goes_or_over o made (state_with rest new)) end.outcome)
    ∙ ap (λ (n : ℕ). Some (report ending.outcome new.state.account.costs made n)) (taken_is gave rest)
    ∙ ap (λ (c : Costs). Some (report ending.outcome c made (length gave))) (sym end.costs)
    ∙ ap (λ (n : ℕ). Some (report ending.outcome ending.costs n (length gave))) (sym end.steps)

spent_reported : (old new : Machined) (gave : List HostAnswer) (fuel : ℕ) → is_over old ≡ false → Runs old new gave fuel runs.Spent
    → RunsOn old fuel gave (record { outcome = outcomes.OutOfSteps fuel; costs = new.state.account.costs; steps = fuel })
spent_reported old new gave fuel on is = λ rest.
    report_on (steps (program_of old.image) old.image.prefix (terms_of old) fuel (state_with (gave ++ rest) old)) (gave ++ rest) fuel (state_with rest new)
    (is.goes on is.answers.0 rest ∙ ap (λ (o : Option Outcome). goes_or_over o 0 (state_with rest new)) is.answers.1)
    ∙ ap (λ (n : ℕ). Some (report (outcomes.OutOfSteps fuel) new.state.account.costs fuel n)) (taken_is gave rest)

pub spent_on : (old new : Machined) (gave : List HostAnswer) (fuel : ℕ) (ending : Ending) → is_over old ≡ false → Runs old new gave fuel runs.Spent → IsSpentOf new fuel ending
    → RunsOn old fuel gave ending
spent_on old new gave fuel ending on is spent = subst (RunsOn old fuel gave) (sym spent) (spent_reported old new gave fuel on is)

-- ---- from the start

begun_at : (imaged : Imaged) (entry : Declared) (input : List ℕ) (most : Thresholds) (limit fuel : ℕ) (m : Machined) (answers : List HostAnswer) → Begins imaged entry input most limit m
    → plain_run (program_of imaged) imaged.prefix (terms_of m) entry input answers fuel
    ≡ report_of answers fuel (steps (program_of imaged) imaged.prefix (terms_of m) fuel (state_with answers m))
unfolding plain_run
begun_at imaged entry input most limit fuel m answers begins =
    ap (λ (a : StepAnswer). report_of answers fuel (from_start (steps (program_of imaged) imaged.prefix (terms_of m) fuel) a)) (begins.state answers)

same_terms : (imaged : Imaged) (entry : Declared) (input : List ℕ) (most : Thresholds) (limit : ℕ) (m : Machined) → Begins imaged entry input most limit m
    → terms_for imaged most limit ≡ terms_of m
same_terms imaged entry input most limit m begins =
    ap (λ (l : ℕ). record { limit = Some l; counting = counting_for imaged.prefix most }) (sym begins.limited)
    ∙ ap (λ (c : Counting). record { limit = Some m.limit; counting = c }) (sym begins.counting)

pub ran_from : (imaged : Imaged) (entry : Declared) (input : List ℕ) (most : Thresholds) (limit fuel : ℕ) (m : Machined) (gave : List HostAnswer) (ending : Ending)
    → Begins imaged entry input most limit m → RunsOn m fuel gave ending → RunsPlainly imaged entry input most limit fuel gave ending
ran_from imaged entry input most limit fuel m gave ending begins ran = λ rest.
    ap (λ (t : Terms). plain_run (program_of imaged) imaged.prefix t entry input (gave ++ rest) fuel) (same_terms imaged entry input most limit m begins)
    ∙ begun_at imaged entry input most limit fuel m (gave ++ rest) begins
    ∙ ap (λ (i : Imaged). report_of (gave ++ rest) fuel (steps (program_of i) i.prefix (terms_of m) fuel (state_with (gave ++ rest) m))) (sym begins.image)
    ∙ ran rest

pub runs_from : (imaged : Imaged) (entry : Declared) (input : List ℕ) (most : Thresholds) (limit fuel : ℕ) (m : Machined) (gave : List HostAnswer) (result : Result Ending EngineError)
    → Begins imaged entry input most limit m → IfOk result (RunsOn m fuel gave) → IfOk result (RunsPlainly imaged entry input most limit fuel gave)
runs_from imaged entry input most limit fuel m gave (Ok ending) begins ran = ran_from imaged entry input most limit fuel m gave ending begins ran
runs_from imaged entry input most limit fuel m gave (Err e) begins ran = tt

-- one that begins isn't over
pub on_at_start : (imaged : Imaged) (entry : Declared) (input : List ℕ) (most : Thresholds) (limit : ℕ) (m : Machined) → Begins imaged entry input most limit m → is_over m ≡ false
on_at_start imaged entry input most limit m begins = let e = begins.failed in let f = begins.outcome in search

-- ---- a run that ends at its start

end_reported : (answer : StepAnswer) (more : State → Ran) (all : List HostAnswer) (fuel : ℕ) (outcome : Outcome) → one.reported_of answer ≡ one.Over outcome new_account all
    → report_of all fuel (from_start more answer) ≡ Some (report outcome new_account.costs 0 (length all - length all))
end_reported (Went s) more all fuel outcome e = absurd cc
end_reported (Ended o s) more all fuel outcome e =
    let a : o ≡ outcome = cc in let b : s.account ≡ new_account = cc in let d : s.answers ≡ all = cc in
    ap (λ (x : Outcome). Some (report x s.account.costs 0 (length all - length s.answers))) a
    ∙ ap (λ (x : Account). Some (report outcome x.costs 0 (length all - length s.answers))) b
    ∙ ap (λ (x : List HostAnswer). Some (report outcome new_account.costs 0 (length all - length x))) d
end_reported IllFormed more all fuel outcome e = absurd cc

pub ended_from : (imaged : Imaged) (entry : Declared) (input : List ℕ) (most : Thresholds) (limit fuel : ℕ) (outcome : Option Outcome) (result : Result Ending EngineError)
    → EndsAtStart imaged entry input most limit outcome → IsEndAtStart outcome result → IfOk result (RunsPlainly imaged entry input most limit fuel [])
unfolding plain_run
ended_from imaged entry input most limit fuel None (Err e) ends is = tt
ended_from imaged entry input most limit fuel None (Ok ending) ends is = absurd is
ended_from imaged entry input most limit fuel (Some outcome) (Err e) ends is = tt
ended_from imaged entry input most limit fuel (Some outcome) (Ok ending) ends is = λ rest.
    end_reported (begin (program_of imaged) imaged.prefix (terms_for imaged most limit) entry input rest) (steps (program_of imaged) imaged.prefix (terms_for imaged most limit) fuel) rest fuel outcome
    (ends rest)
    ∙ ap (λ (n : ℕ). Some (report outcome new_account.costs 0 n)) (none_taken rest)
    ∙ ap (λ (o : Outcome). Some (report o new_account.costs 0 0)) (sym is.0)
    ∙ ap (λ (c : Costs). Some (report ending.outcome c 0 0)) (sym is.1)
    ∙ ap (λ (n : ℕ). Some (report ending.outcome ending.costs n 0)) (sym is.2)

since_none : (before : List HostAnswer) → given_since before before ≡ []
since_none [] = refl
since_none (x ∷ before) = since_none before

-- the host gave nothing
pub ended_quietly : (imaged : Imaged) (entry : Declared) (input : List ℕ) (most : Thresholds) (limit fuel : ℕ) (outcome : Option Outcome) (result : Result Ending EngineError)
    (before : List HostAnswer) → EndsAtStart imaged entry input most limit outcome → IsEndAtStart outcome result
    → IfOk result (RunsPlainly imaged entry input most limit fuel (given_since before before))
ended_quietly imaged entry input most limit fuel outcome result before ends is =
    subst (λ (gave : List HostAnswer). IfOk result (RunsPlainly imaged entry input most limit fuel gave)) (sym (since_none before))
    (ended_from imaged entry input most limit fuel outcome result ends is)
