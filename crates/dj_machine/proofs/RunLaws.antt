-- Steps of a machine, one after the other.
use Rattle.std.proofs.Common.{◌≡◌, ◌<◌, ◌≤◌, ◌+◌, ◌-◌, ℕ, zero, suc, Bool, true, false, List, [], ◌∷◌, ◌++◌, drop, length, Option, Some, None, IsSome, refl, ap, ◌∙◌, sym, subst, arith}
use Rattle.dj_names.specs.declared.run.Outcome.{Outcome}
use Rattle.dj_edge.specs.declared.host.HostAnswer.{HostAnswer}
use Rattle.dj_host.specs.trusted.Hosted.{given_since}
use Rattle.dj_model.specs.trusted.Types.{Prefix}
use Rattle.dj_model.specs.trusted.Program.{Program}
use Rattle.dj_model.specs.Standing.{AsksNothing}
use Rattle.dj_model.specs.trusted.State.{State, Terms, Account, Counting}
use Rattle.dj_model.specs.trusted.Step.{StepAnswer, Went, Ended, IllFormed, step}
use Rattle.dj_model.specs.trusted.Runs.{Ran, Going, Finished, NoStep, one_more, steps, then_steps}
use Rattle.dj_image.specs.Imaged.{Imaged, program_of}
use Rattle.dj_step.specs.Answers as one
use Rattle.dj_step.specs.declared.answers.StepAnswer.TheVariants as answers
use Rattle.dj_step.specs.Machines.{IsSameRun, Machined, Stays, Steps, is_over, machine_reported, on_or_over, state_with, step_answer, terms_of}
use Rattle.dj_machine.specs.declared.answer.RunAnswer.{RunAnswer}
use Rattle.dj_machine.specs.declared.answer.RunAnswer.TheVariants as runs
use Rattle.dj_machine.specs.Runs.{Goes, IsAnswer, Nowhere, On, Over, Runs, Reported, goes_or_over, reported_of}

-- ---- what is reported after this many more steps

abbrev more : ℕ → Reported → Reported
more n (On s) = On s
more n (Over outcome k account left) = Over outcome (n + k) account left
more n Nowhere = Nowhere

one_more_reported : (ran : Ran) → reported_of (one_more ran) ≡ more 1 (reported_of ran)
one_more_reported (Going s) = refl
one_more_reported (Finished outcome s n) = let e : suc n ≡ 1 + n = omega arith in ap (λ (k : ℕ). Over outcome k s.account s.answers) e
one_more_reported NoStep = refl

more_more : (n : ℕ) (reported : Reported) → more n (more 1 reported) ≡ more (suc n) reported
more_more n (On s) = refl
more_more n (Over outcome k account left) = let e : n + (1 + k) ≡ suc n + k = omega arith in ap (λ (x : ℕ). Over outcome x account left) e
more_more n Nowhere = refl

-- ---- how a run has come so far

pub record IsSoFar (old now : Machined) (before after : List HostAnswer) (fuel made : ℕ) : Type 0 where
  pub on : is_over now ≡ false
  pub run : IsSameRun old now
  pub gave : after ≡ before ++ given_since before after
  pub quiet : AsksNothing (program_of old.image) → after ≡ before
  pub reported : (rest : List HostAnswer) → reported_of (steps (program_of old.image) old.image.prefix (terms_of old) fuel (state_with (given_since before after ++ rest) old))
      ≡ more made (reported_of (steps (program_of old.image) old.image.prefix (terms_of old) (fuel - made) (state_with rest now)))

zero_more : (reported : Reported) → more 0 reported ≡ reported
zero_more (On s) = refl
zero_more (Over outcome k account left) = let e : 0 + k ≡ k = omega arith in ap (λ (n : ℕ). Over outcome n account left) e
zero_more Nowhere = refl

given_none : (before : List HostAnswer) → given_since before before ≡ []
given_none [] = refl
given_none (x ∷ before) = given_none before

append_none : (before : List HostAnswer) → before ++ [] ≡ before
append_none [] = refl
append_none (x ∷ before) = ap (λ more. x ∷ more) (append_none before)

minus_zero : (n : ℕ) → n - 0 ≡ n
minus_zero n = omega arith

pub begins : (old : Machined) (before : List HostAnswer) (fuel : ℕ) → is_over old ≡ false → IsSoFar old old before before fuel 0
begins old before fuel on = record {
  on = on;
  run = record { image = refl; limit = refl; counting = refl };
  gave = sym (append_none before) ∙ ap (λ (g : List HostAnswer). before ++ g) (sym (given_none before));
  quiet = λ _. refl;
  reported = λ rest.
      ap (λ (g : List HostAnswer). reported_of (steps (program_of old.image) old.image.prefix (terms_of old) fuel (state_with (g ++ rest) old))) (given_none before)
      ∙ sym (zero_more (reported_of (steps (program_of old.image) old.image.prefix (terms_of old) fuel (state_with rest old))))
      ∙ ap (λ (n : ℕ). more 0 (reported_of (steps (program_of old.image) old.image.prefix (terms_of old) n (state_with rest old)))) (sym (minus_zero fuel));
}

-- ---- one step more

is_went : (answer : StepAnswer) (s : State) → one.reported_of answer ≡ one.On s → answer ≡ Went s
is_went (Went t) s e = let f : t ≡ s = cc in ap Went f
is_went (Ended outcome t) s e = absurd cc
is_went IllFormed s e = absurd cc

is_ended : (answer : StepAnswer) (outcome : Outcome) (account : Account) (left : List HostAnswer) → one.reported_of answer ≡ one.Over outcome account left
    → reported_of (then_steps (λ s. NoStep) answer) ≡ Over outcome 1 account left
is_ended (Went t) outcome account left e = absurd cc
is_ended (Ended other t) outcome account left e =
    let f : other ≡ outcome = cc in let g : t.account ≡ account = cc in let h : t.answers ≡ left = cc in
    ap (λ (o : Outcome). Over o 1 t.account t.answers) f ∙ ap (λ (a : Account). Over outcome 1 a t.answers) g ∙ ap (λ (l : List HostAnswer). Over outcome 1 account l) h
is_ended IllFormed outcome account left e = absurd cc

ended_alike : (other : State → Ran) (answer : StepAnswer) (outcome : Outcome) (account : Account) (left : List HostAnswer) → one.reported_of answer ≡ one.Over outcome account left
    → reported_of (then_steps other answer) ≡ Over outcome 1 account left
ended_alike other (Went t) outcome account left e = absurd cc
ended_alike other (Ended o t) outcome account left e = is_ended (Ended o t) outcome account left e
ended_alike other IllFormed outcome account left e = absurd cc

module _ (program : Program) (prefix : Prefix) (terms : Terms) where
  steps_on : (n : ℕ) (s t : State) → step program prefix terms s ≡ Went t → reported_of (steps program prefix terms (suc n) s) ≡ more 1 (reported_of (steps program prefix terms n t))
  unfolding steps
  steps_on n s t e = ap (λ (a : StepAnswer). reported_of (then_steps (steps program prefix terms n) a)) e ∙ one_more_reported (steps program prefix terms n t)

  steps_end : (n : ℕ) (s : State) (outcome : Outcome) (account : Account) (left : List HostAnswer) → one.reported_of (step program prefix terms s) ≡ one.Over outcome account left
      → reported_of (steps program prefix terms (suc n) s) ≡ Over outcome 1 account left
  unfolding steps
  steps_end n s outcome account left e = ended_alike (steps program prefix terms n) (step program prefix terms s) outcome account left e

  no_steps : (s : State) → reported_of (steps program prefix terms 0 s) ≡ On s
  unfolding steps
  no_steps s = refl

-- ---- what an answer says of the machine

-- a machine by its parts
abbrev machine : Imaged → ℕ → Counting → State → Option Outcome → Bool → Machined
machine image limit counting state outcome failed =
    record { image = image; limit = limit; counting = counting; state = state; outcome = outcome; failed = failed }

module _ (image : Imaged) (limit : ℕ) (counting : Counting) (state : State) where
  goes_by : (outcome : Option Outcome) (failed : Bool) → answers.Went ≡ step_answer (machine image limit counting state outcome failed)
      → is_over (machine image limit counting state outcome failed) ≡ false
  goes_by None false e = refl
  goes_by (Some outcome) false e = absurd cc
  goes_by None true e = absurd cc
  goes_by (Some outcome) true e = absurd cc

  is_on_by : (outcome : Option Outcome) (failed : Bool) → is_over (machine image limit counting state outcome failed) ≡ false → (failed ≡ false) × (outcome ≡ None)
  is_on_by None false e = (refl, refl)
  is_on_by (Some outcome) false e = absurd cc
  is_on_by None true e = absurd cc
  is_on_by (Some outcome) true e = absurd cc

  ended_by : (outcome : Option Outcome) (failed : Bool) → answers.Ended ≡ step_answer (machine image limit counting state outcome failed)
      → (failed ≡ false) × IsSome outcome
  ended_by None false e = absurd cc
  ended_by (Some outcome) false e = (refl, refl)
  ended_by None true e = absurd cc
  ended_by (Some outcome) true e = absurd cc

goes : (m : Machined) → answers.Went ≡ step_answer m → is_over m ≡ false
goes m e = goes_by m.image m.limit m.counting m.state m.outcome m.failed e

is_on : (m : Machined) → is_over m ≡ false → (m.failed ≡ false) × (m.outcome ≡ None)
is_on m e = is_on_by m.image m.limit m.counting m.state m.outcome m.failed e

ended_is : (m : Machined) → answers.Ended ≡ step_answer m → (m.failed ≡ false) × IsSome m.outcome
ended_is m e = ended_by m.image m.limit m.counting m.state m.outcome m.failed e

-- ---- lists of answers

append_assoc : (a b c : List HostAnswer) → (a ++ b) ++ c ≡ a ++ (b ++ c)
append_assoc [] b c = refl
append_assoc (x ∷ a) b c = ap (λ (l : List HostAnswer). x ∷ l) (append_assoc a b c)

since : (before gave : List HostAnswer) → given_since before (before ++ gave) ≡ gave
since [] gave = refl
since (x ∷ before) gave = since before gave

more_given : (before after next : List HostAnswer) → after ≡ before ++ given_since before after → next ≡ after ++ given_since after next
    → given_since before next ≡ given_since before after ++ given_since after next
more_given before after next first second =
    ap (given_since before) (second ∙ ap (λ (l : List HostAnswer). l ++ given_since after next) first ∙ append_assoc before (given_since before after) (given_since after next))
    ∙ since before (given_since before after ++ given_since after next)

all_given : (before after next : List HostAnswer) → after ≡ before ++ given_since before after → next ≡ after ++ given_since after next
    → next ≡ before ++ given_since before next
all_given before after next first second =
    second ∙ ap (λ (l : List HostAnswer). l ++ given_since after next) first ∙ append_assoc before (given_since before after) (given_since after next)
    ∙ ap (λ (l : List HostAnswer). before ++ l) (sym (more_given before after next first second))

-- ---- the loop

abbrev run_reported : Machined → ℕ → State → Reported
run_reported m n s = reported_of (steps (program_of m.image) m.image.prefix (terms_of m) n s)

same_step : (old now : Machined) → IsSameRun old now → (s : State)
    → step (program_of old.image) old.image.prefix (terms_of old) s ≡ step (program_of now.image) now.image.prefix (terms_of now) s
same_step old now run s =
    sym (ap (λ (i : Imaged). step (program_of i) i.prefix (terms_of now) s) run.image
    ∙ ap (λ (l : ℕ). step (program_of old.image) old.image.prefix (record { limit = Some l; counting = now.counting }) s) run.limit
    ∙ ap (λ (c : Counting). step (program_of old.image) old.image.prefix (record { limit = Some old.limit; counting = c }) s) run.counting)

after_run : (old now new : Machined) → IsSameRun old now → IsSameRun now new → IsSameRun old new
after_run old now new first second =
    record { image = second.image ∙ first.image; limit = second.limit ∙ first.limit; counting = second.counting ∙ first.counting }

more_left : (fuel made : ℕ) → made < fuel → fuel - made ≡ suc (fuel - (made + 1))
more_left fuel made lt = omega (arith, lt)

suc_is : (made : ℕ) → suc made ≡ made + 1
suc_is made = omega arith

none_left : (fuel made : ℕ) → fuel ≤ made → fuel - made ≡ 0
none_left fuel made past = omega (arith, past)

-- a program that asks nothing has asked nothing so far
pub quiet_since : {old now : Machined} {before after next : List HostAnswer} {fuel made : ℕ} → IsSoFar old now before after fuel made
    → (AsksNothing (program_of now.image) → next ≡ after) → AsksNothing (program_of old.image) → next ≡ before
quiet_since so quiet asks = quiet (subst (λ (image : Imaged). AsksNothing (program_of image)) (sym so.run.image) asks) ∙ so.quiet asks

module _ (old now new : Machined) (before after next : List HostAnswer) (fuel made : ℕ) (so : IsSoFar old now before after fuel made)
    (gave : next ≡ after ++ given_since after next) where
  -- what is reported of the whole is reported of the rest from here
  reported_so : (rest : List HostAnswer) → made < fuel → run_reported old fuel (state_with (given_since before next ++ rest) old)
      ≡ more made (run_reported old (suc (fuel - (made + 1))) (state_with (given_since after next ++ rest) now))
  reported_so rest lt =
      ap (λ (l : List HostAnswer). run_reported old fuel (state_with (l ++ rest) old)) (more_given before after next so.gave gave)
      ∙ ap (λ (l : List HostAnswer). run_reported old fuel (state_with l old)) (append_assoc (given_since before after) (given_since after next) rest)
      ∙ so.reported (given_since after next ++ rest)
      ∙ ap (λ (n : ℕ). more made (run_reported old n (state_with (given_since after next ++ rest) now))) (more_left fuel made lt)

  pub went : (AsksNothing (program_of now.image) → next ≡ after) → made < fuel → Steps now new (given_since after next) answers.Went → IsSoFar old new before next fuel (made + 1)
  went quiet lt is = record {
    on = goes new is.answers;
    run = after_run old now new so.run is.run;
    gave = all_given before after next so.gave gave;
    quiet = quiet_since so quiet;
    reported = λ rest.
        let on = is_on new (goes new is.answers) in
        let e : one.reported_of (step (program_of now.image) now.image.prefix (terms_of now) (state_with (given_since after next ++ rest) now)) ≡ one.On (state_with rest new) =
        is.goes so.on on.0 rest ∙ ap (λ (o : Option Outcome). on_or_over o (state_with rest new)) on.1 in
        reported_so rest lt
        ∙ ap (more made) (steps_on (program_of old.image) old.image.prefix (terms_of old) (fuel - (made + 1)) (state_with (given_since after next ++ rest) now) (state_with rest new)
        (same_step old now so.run (state_with (given_since after next ++ rest) now) ∙ is_went _ (state_with rest new) e))
        ∙ more_more made (run_reported old (fuel - (made + 1)) (state_with rest new))
        ∙ ap (λ (n : ℕ). more n (run_reported old (fuel - (made + 1)) (state_with rest new))) (suc_is made);
  }

  end_reported : (outcome : Outcome) → new.failed ≡ false → new.outcome ≡ Some outcome → made < fuel → Steps now new (given_since after next) answers.Ended → (rest : List HostAnswer)
      → run_reported old fuel (state_with (given_since before next ++ rest) old) ≡ Over outcome (made + 1) new.state.account rest
  end_reported outcome failed is_so lt is rest =
      let e : one.reported_of (step (program_of now.image) now.image.prefix (terms_of now) (state_with (given_since after next ++ rest) now)) ≡ one.Over outcome new.state.account rest =
      is.goes so.on failed rest ∙ ap (λ (o : Option Outcome). on_or_over o (state_with rest new)) is_so in
      reported_so rest lt
      ∙ ap (more made) (steps_end (program_of old.image) old.image.prefix (terms_of old) (fuel - (made + 1)) (state_with (given_since after next ++ rest) now) outcome new.state.account rest
      (ap one.reported_of (same_step old now so.run (state_with (given_since after next ++ rest) now)) ∙ e))

  ends_in : (outcome : Option Outcome) → new.outcome ≡ outcome → IsSome outcome → new.failed ≡ false → made < fuel → Steps now new (given_since after next) answers.Ended → (rest : List HostAnswer)
      → run_reported old fuel (state_with (given_since before next ++ rest) old) ≡ goes_or_over outcome (made + 1) (state_with rest new)
  ends_in None is_so some failed lt is rest = absurd cc
  ends_in (Some outcome) is_so some failed lt is rest = end_reported outcome failed is_so lt is rest

  pub ended : is_over old ≡ false → made < fuel → Steps now new (given_since after next) answers.Ended → Runs old new (given_since before next) fuel (runs.Ended (made + 1))
  ended on lt is =
      let at = ended_is new is.answers in
      record {
        answers = (at.0, at.1, omega (arith, lt));
        run = after_run old now new so.run is.run;
        over = λ over. absurd cc;
        goes = λ _ failed rest. ends_in new.outcome refl at.1 failed lt is rest;
      }

pub spent : (old now : Machined) (before after : List HostAnswer) (fuel made : ℕ) → is_over old ≡ false → IsSoFar old now before after fuel made → fuel ≤ made
    → Runs old now (given_since before after) fuel runs.Spent
spent old now before after fuel made on so past =
    let at = is_on now so.on in
    record {
      answers = at;
      run = so.run;
      over = λ over. absurd cc;
      goes = λ _ failed rest.
          so.reported rest
          ∙ ap (λ (n : ℕ). more made (run_reported old n (state_with rest now))) (none_left fuel made past)
          ∙ ap (more made) (no_steps (program_of old.image) old.image.prefix (terms_of old) (state_with rest now))
          ∙ ap (λ (o : Option Outcome). goes_or_over o 0 (state_with rest now)) (sym at.1);
    }
