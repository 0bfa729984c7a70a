-- The plain run of the rewritten program follows the metered run of a sound program.
use Rattle.std.proofs.Common.{◌≡◌, ℕ, zero, suc, ◌+◌, ◌*◌, ◌≤◌, Bool, true, false, List, [], ◌∷◌, length, Option, Some, None, refl, sym, ap, subst, ◌∙◌, inl, inr, arith, if◌then◌else◌}
use Rattle.std.specs.Prelude.{⊤}
use Rattle.std.proofs.lemmas.List.{length-map}
use Rattle.std.proofs.lemmas.Option.{none-some}
use Rattle.dj_names.specs.declared.run.Costs.{Costs}
use Rattle.dj_names.specs.declared.run.Outcome.{Outcome}
use Rattle.dj_names.specs.declared.run.Outcome.TheVariants as outcomes
use Rattle.dj_names.specs.declared.run.Thresholds.{Thresholds}
use Rattle.dj_names.specs.Types.{in_sandbox, sandbox_prefix}
use Rattle.dj_model.specs.trusted.Types.{Declared}
use Rattle.dj_model.specs.Types.{declared_map}
use Rattle.dj_model.specs.trusted.Program.{Program, Code, code_of}
use Rattle.dj_model.specs.trusted.State.{Terms, Accounted, Frame, State}
use Rattle.dj_model.specs.trusted.Charging.{Charged, Fine, Over, no_costs}
use Rattle.dj_model.specs.trusted.Initialisation.{most_frames}
use Rattle.dj_model.specs.trusted.Step.{StepAnswer, Went, Ended, IllFormed, stop_from, throw_stop_or, step}
use Rattle.dj_model.specs.trusted.Runs.{Ran, Going, Finished, NoStep, Report, one_more, then_steps, from_start, steps, begin, report_of, taken_of, plain_run}
use Rattle.dj_model.specs.Charging.{charge_all}
use Rattle.dj_model.specs.Mapping.{outcome_map}
use Rattle.dj_model.specs.Runs.{Run, Underway, RunEnds, Stuck, RunsTo, amounts, with_paid, top_is_paid, paid_run, answer_run, metered_terms, turn, then_turn, turns, metered_run}
use Rattle.dj_model.specs.Laws.{AnswerFew, RunWithin}
use Rattle.dj_model.specs.Sound.{IsSound}
use Rattle.dj_model.specs.Standing.{AsksNothing, AnswerStands, RunStands, IsEntry}
use Rattle.dj_model.proofs.LawProofs.{few_frames, costs_stay_within, runs_stay_sound}
use Rattle.dj_groups.specs.Rewritten.{rewritten}
use Rattle.dj_sim.specs.Counting.{terms_with, IsThrown, CountsAs}
use Rattle.dj_sim.specs.Limits.{IsFull, RanLimited}
use Rattle.dj_sim.specs.Metering.{one_if, then_acts, acts_from, acts, Stands, plain_after, RunFollows, Follows, IsNotSpent, IsNotFull, Meters}
use Rattle.dj_sim.specs.Objects.{HasBase, AnswerBelow, RunBelow}
use Rattle.dj_sim.specs.Simulation.{groups_in, part_at, frame_image, state_image, plain_terms, AreOriginal, EndsWithin, with_stop, PaidImage, answer_image}
use Rattle.dj_sim.specs.Waiting.{AnswerWaits, RunWaits}
use Rattle.dj_sim.proofs.Back as back
use Rattle.dj_sim.proofs.Back.{IsOver, from_start_stays}
use Rattle.dj_sim.proofs.BelowObject.{begin_below, turn_below}
use Rattle.dj_sim.proofs.Limited.{begin_limited, run_limited}
use Rattle.dj_sim.proofs.LawProofs.{begins, counts, sound_acts, sound_pays, stop_leaves, all_original}
use Rattle.dj_sim.proofs.Places.{either}
use Rattle.dj_sim.proofs.Unwinding.{step_more}
use Rattle.dj_sim.proofs.Waiting.{begin_waits, turn_waits, top_alike}

-- ---- steps after steps

-- the same, after so many more steps
abbrev pub adds : ℕ → Ran → Ran
adds j (Going s) = Going s
adds j (Finished outcome s n) = Finished outcome s (j + n)
adds j NoStep = NoStep

adds_none : (r : Ran) → r ≡ adds 0 r
adds_none (Going s) = refl
adds_none (Finished outcome s n) = ap (Finished outcome s) (omega arith)
adds_none NoStep = refl

adds_one : (j : ℕ) (r : Ran) → one_more (adds j r) ≡ adds (suc j) r
adds_one j (Going s) = refl
adds_one j (Finished outcome s n) = ap (Finished outcome s) (omega arith)
adds_one j NoStep = refl

one_going : (r : Ran) (s : State) → one_more r ≡ Going s → r ≡ Going s
one_going (Going t) s e = e
one_going (Finished outcome t n) s e = absurd (subst IsOver e tt)
one_going NoStep s e = absurd (subst IsOver e tt)

state_in : State → Ran → State
state_in other (Going s) = s
state_in other (Finished outcome s n) = other
state_in other NoStep = other

module _ (program : Program) (most : Thresholds) where
  abbrev R : Program
  R = rewritten program

  abbrev run : ℕ → State → Ran
  run = steps R sandbox_prefix (plain_terms most)

  then_on : (j m : ℕ) (s r : State) → run j s ≡ Going r → run (j + m) s ≡ adds j (run m r)
  unfolding steps state_in
  then_on zero m s r e =
      let none : 0 + m ≡ m = omega arith in
      let same : s ≡ r = ap (state_in s) e in
      ap (λ n. run n s) none ∙ (ap (run m) same ∙ adds_none (run m r))
  then_on (suc j) m s r e =
      let next : suc j + m ≡ suc (j + m) = omega arith in
      ap (λ n. run n s) next ∙ go (step R sandbox_prefix (plain_terms most) s) e (λ t going. then_on j m t r going) where
        go : (a : StepAnswer) → then_steps (run j) a ≡ Going r → ((t : State) → run j t ≡ Going r → run (j + m) t ≡ adds j (run m r)) → then_steps (run (j + m)) a ≡ adds (suc j) (run m r)
        go (Went t) going more = ap one_more (more t (one_going (run j t) r going)) ∙ adds_one j (run m r)
        go (Ended outcome t) going more = absurd (subst IsOver going tt)
        go IllFormed going more = absurd (subst IsOver going tt)

  pub start_on : (j m : ℕ) (a : StepAnswer) (r : State) → from_start (run j) a ≡ Going r → from_start (run (j + m)) a ≡ adds j (run m r)
  start_on j m (Went s) r e = then_on j m s r e
  start_on j m (Ended outcome s) r e = absurd (subst IsOver e tt)
  start_on j m IllFormed r e = absurd (subst IsOver e tt)

  one_step : (s t : State) → step R sandbox_prefix (plain_terms most) s ≡ Went t → run 1 s ≡ Going t
  unfolding steps
  one_step s t e = ap (then_steps (run 0)) e

  pub one_end : (s t : State) (outcome : Outcome) → step R sandbox_prefix (plain_terms most) s ≡ Ended outcome t → run 1 s ≡ Finished outcome t 1
  unfolding steps
  one_end s t outcome e = ap (then_steps (run 0)) e

  pub first_step : (s : State) (n : ℕ) → run (suc n) s ≡ one_more (from_start (run n) (step R sandbox_prefix (plain_terms most) s))
  unfolding steps
  first_step s n = step_more (run n) (step R sandbox_prefix (plain_terms most) s)

-- ---- what holds of a state, after a turn

one_at_most : (b : Bool) → one_if b ≤ 1
one_at_most true = omega arith
one_at_most false = omega arith

module _ (program : Program) (sound : IsSound program []) (base : HasBase program) (quiet : AsksNothing program) (most : Thresholds) where
  abbrev RunFew : Run → Type 0
  RunFew (Underway s) = length s.frames ≤ most_frames
  RunFew (RunEnds outcome costs) = ⊤
  RunFew Stuck = ⊤

  abbrev RunGood : Run → Type 0
  RunGood (Underway s) = Stands program most s
  RunGood (RunEnds outcome costs) = ⊤
  RunGood Stuck = ⊥

  answer_few : (a : StepAnswer) → AnswerFew a → RunFew (answer_run a)
  answer_few (Went s) k = k
  answer_few (Ended outcome s) k = tt
  answer_few IllFormed k = tt

  paid_length : (frames : List (Frame Declared)) → length (with_paid frames) ≡ length frames
  paid_length [] = refl
  paid_length (x ∷ below) = refl

  paid_few : (s : State) (c : Charged) → length s.frames ≤ most_frames → RunFew (paid_run s c)
  paid_few s (Fine account) few = omega (arith, few, paid_length s.frames)
  paid_few s (Over charge account) few = tt

  turn_few : (s : State) → length s.frames ≤ most_frames → RunFew (turn program most s)
  unfolding turn
  turn_few s few = elim (either (top_is_paid s.frames)) [
    | inl e ↦ rw e (answer_few (step program [] (metered_terms most) s) (few_frames.goes_on program [] (metered_terms most) s few))
    | inr e ↦ rw e (paid_few s (charge_all most (amounts program [] s) s.account) few)
  ]

  good : (costs : Costs) (r : Run) → RunStands program r → RunWaits r → RunWithin most costs r → RunBelow program r → RunFew r → RunGood r
  good costs (Underway s) standing waiting within below few = record { standing = standing; waiting = waiting; paid = within.0; below = below; few = few }
  good costs (RunEnds outcome c) standing waiting within below few = tt
  good costs Stuck standing waiting within below few = standing

  turn_good : (s : State) → Stands program most s → RunGood (turn program most s)
  turn_good s stands = good s.account.costs (turn program most s) (elim (runs_stay_sound.turns program most s sound stands.standing) [
    | inl k ↦ k
    | inr starved ↦ absurd (runs_stay_sound.quiet program [] (metered_terms most) s quiet starved)
  ]) (turn_waits program most s stands.waiting) (costs_stay_within.turns program most s stands.paid) (turn_below program base sound most s stands.standing stands.below) (turn_few s stands.few)

  -- ---- an act whose own charge ends the run: the plain run throws the object that stops it

  module _ (s : State) (touched : Bool) where
    state_of : StepAnswer → State
    state_of (Went t) = t
    state_of (Ended outcome t) = t
    state_of IllFormed = s

    outcome_of : StepAnswer → Outcome
    outcome_of (Went t) = outcomes.OkNull
    outcome_of (Ended outcome t) = outcome
    outcome_of IllFormed = outcomes.OkNull

    pub thrown_ends : (t : State) (outcome : Outcome) (accounted metered : StepAnswer) → metered ≡ Ended (outcome_map in_sandbox outcome) (state_image program touched t)
        → IsThrown (rewritten program) sandbox_prefix (plain_terms most) (state_image program touched s) accounted metered
        → EndsWithin (rewritten program) most (2 * length s.frames) accounted (outcome_map in_sandbox outcome) (with_stop (state_image program touched t))
    unfolding state_of outcome_of
    thrown_ends t outcome accounted metered same th =
        let both : Ended (outcome_map in_sandbox outcome) (state_image program touched t) ≡ Ended (outcomes.Stopped th.charge) th.end = sym same ∙ th.ends in
        let end_is : state_image program touched t ≡ th.end = ap state_of both in
        let outcome_is : outcome_map in_sandbox outcome ≡ outcomes.Stopped th.charge = ap outcome_of both in
        let top : Frame Declared = record th.top { locals = th.locals; operands = th.operands } in
        let original : AreOriginal (th.top ∷ th.below) = subst AreOriginal th.frames (all_original program base.object (sound_pays.handlers program sound) most s.frames) in
        let leaving : StepAnswer = throw_stop_or (rewritten program) sandbox_prefix (plain_terms most) (record th.end { frames = top ∷ th.below }) (stop_from sandbox_prefix 1 th.end.heap.objects) in
        let ends : EndsWithin (rewritten program) most (2 * suc (length th.below)) leaving (outcomes.Stopped th.charge) (with_stop th.end) =
        stop_leaves program base.object (sound_pays.handlers program sound) most th.end top th.below th.charge t.heap (ap (λ (u : State). u.heap) (sym end_is)) (original.0, original.1) th.exceeded in
        let deep : suc (length th.below) ≡ length s.frames = sym (ap length th.frames) ∙ length-map s.frames (frame_image program) in
        subst (λ (k : ℕ). EndsWithin (rewritten program) most (2 * k) accounted (outcome_map in_sandbox outcome) (with_stop (state_image program touched t))) deep
        (subst (λ (a : StepAnswer). EndsWithin (rewritten program) most (2 * suc (length th.below)) a (outcome_map in_sandbox outcome) (with_stop (state_image program touched t))) (sym th.thrown)
        (subst (λ (o : Outcome). EndsWithin (rewritten program) most (2 * suc (length th.below)) leaving o (with_stop (state_image program touched t))) (sym outcome_is)
        (subst (λ (u : State). EndsWithin (rewritten program) most (2 * suc (length th.below)) leaving (outcomes.Stopped th.charge) (with_stop u)) (sym end_is) ends)))

  -- ---- one turn

  module _ (entry : Declared) (input : List ℕ) where
    abbrev N : ℕ → Ran
    N j = plain_after program most entry input j

    abbrev begun : StepAnswer
    begun = begin (rewritten program) sandbox_prefix (plain_terms most) (declared_map in_sandbox entry) input []

    -- after n turns, of which so many do an instruction
    abbrev Here : ℕ → ℕ → State → Type 0
    Here n done s = (touched : Bool) × (j : ℕ) × (n ≤ 2 * j + one_if (top_is_paid s.frames)) × (j ≤ 7 * done + 6 * one_if (top_is_paid s.frames))
        × (N j ≡ Going (state_image program touched s)) × Stands program most s

    abbrev After : ℕ → ℕ → Run → Type 0
    After n done (Underway s) = Here n done s
    After n done (RunEnds outcome costs) = RunFollows program most entry input n done (RunEnds outcome costs)
    After n done Stuck = ⊥

    -- ---- an act

    module _ (n done : ℕ) (s : State) (touched : Bool) (j : ℕ) (turned : n ≤ 2 * j + 1) (stepped : j ≤ 7 * done + 6) (at : N j ≡ Going (state_image program touched s)) (stands : Stands program most s) where
      abbrev image : State
      image = state_image program touched s

      goes_to : (t : State) → step (rewritten program) sandbox_prefix (plain_terms most) image ≡ Went (state_image program touched t) → Stands program most t → Here (suc n) (done + 1) t
      goes_to t e good = (
        touched,
        j + 1,
        omega (arith, turned),
        omega (arith, stepped),
        start_on program most j 1 begun image at ∙ ap (adds j) (one_step program most image (state_image program touched t) e),
        good,
      )

      ends_at : (t : State) (outcome : Outcome) → step (rewritten program) sandbox_prefix (plain_terms most) image ≡ Ended (outcome_map in_sandbox outcome) (state_image program touched t)
          → After (suc n) (done + 1) (RunEnds outcome t.account.costs)
      ends_at t outcome e = (
        j + 1,
        omega (arith, stepped),
        state_image program touched t,
        start_on program most j 1 begun image at ∙ ap (adds j) (one_end program most image (state_image program touched t) (outcome_map in_sandbox outcome) e),
        refl,
      )

      -- within so many steps after the one that throws the object that stops the run
      stops_after : (outcome : Outcome) (left : State) (bound : ℕ) → bound ≤ 2048 → EndsWithin (rewritten program) most bound (step (rewritten program) sandbox_prefix (plain_terms most) image) (outcome_map in_sandbox outcome) left
          → After (suc n) (done + 1) (RunEnds outcome left.account.costs)
      stops_after outcome left bound few (m, within, u, ends, same) = (
        j + suc m,
        omega (arith, stepped, few, within),
        u,
        start_on program most j (suc m) begun image at ∙ ap (adds j) (first_step program most image m ∙ ap one_more ends),
        same.0,
      )

      abbrev HasEnded : StepAnswer → Type 0
      HasEnded (Went t) = ⊥
      HasEnded (Ended outcome t) = ⊤
      HasEnded IllFormed = ⊥

      thrown : (t : State) (outcome : Outcome) (accounted metered : StepAnswer) → step (rewritten program) sandbox_prefix (plain_terms most) image ≡ accounted
          → metered ≡ Ended (outcome_map in_sandbox outcome) (state_image program touched t) → IsThrown (rewritten program) sandbox_prefix (plain_terms most) image accounted metered
          → After (suc n) (done + 1) (RunEnds outcome t.account.costs)
      thrown t outcome accounted metered e same th = stops_after outcome (with_stop t) (2 * length s.frames) (omega (arith, stands.few))
          (subst (λ (a : StepAnswer). EndsWithin (rewritten program) most (2 * length s.frames) a (outcome_map in_sandbox outcome) (with_stop (state_image program touched t))) (sym e)
          (thrown_ends s touched t outcome accounted metered same th))

      acted : (a : StepAnswer) → RunGood (answer_run a) → step (rewritten program) sandbox_prefix (metered_terms most) image ≡ answer_image program touched a → After (suc n) (done + 1) (answer_run a)
      acted a good e = by a good e (counts.steps (rewritten program) sandbox_prefix None most image) where
        by : (a : StepAnswer) → RunGood (answer_run a) → step (rewritten program) sandbox_prefix (metered_terms most) image ≡ answer_image program touched a
            → CountsAs (rewritten program) sandbox_prefix (plain_terms most) image (step (rewritten program) sandbox_prefix (plain_terms most) image) (step (rewritten program) sandbox_prefix (metered_terms most) image)
            → After (suc n) (done + 1) (answer_run a)
        by (Went t) good e (inl same) = goes_to t (same ∙ e) good
        by (Went t) good e (inr th) = absurd (subst HasEnded (sym th.ends ∙ e) tt)
        by (Ended outcome t) good e (inl same) = ends_at t outcome (same ∙ e)
        by (Ended outcome t) good e (inr th) = thrown t outcome _ _ refl e th
        by IllFormed good e counted = absurd good

    -- ---- a payment

    module _ (n done : ℕ) (s : State) (touched : Bool) (j : ℕ) (turned : n ≤ 2 * j) (stepped : j ≤ 7 * done) (at : N j ≡ Going (state_image program touched s)) (stands : Stands program most s)
        (x : Frame Declared) (below : List (Frame Declared)) (frames : s.frames ≡ x ∷ below) where
      paid_top : top_is_paid (with_paid s.frames) ≡ true
      paid_top = ap (λ (fs : List (Frame Declared)). top_is_paid (with_paid fs)) frames

      pays_to : (k : ℕ) → k ≤ 6 → (c : Charged) → RunGood (paid_run s c) → PaidImage program (rewritten program) most k touched s x below c → After (suc n) (done + 0) (paid_run s c)
      pays_to k few (Fine account) good (now, goes) =
          let one : one_if (top_is_paid (with_paid s.frames)) ≡ 1 = ap one_if paid_top in (
            now,
            j + k,
            omega (arith, turned, one),
            omega (arith, stepped, few, one),
            start_on program most j k begun (state_image program touched s) at
                ∙ (ap (adds j) goes ∙ ap (λ (fs : List (Frame Declared)). Going (state_image program now (record s { account = account; frames = fs }))) (sym (ap with_paid frames))),
            good,
          )
      pays_to k few (Over charge account) good (m, within, u, ends, same) =
          let deep : length s.frames ≡ suc (length below) = ap length frames in (
            j + m,
            omega (arith, stepped, few, within, deep, stands.few),
            u,
            start_on program most j m begun (state_image program touched s) at ∙ ap (adds j) ends,
            same.0,
          )

    -- ---- either

    few_parts : (c : Option Code) (number : ℕ) → length (part_at (groups_in program c) number) ≤ 6
    few_parts None number = omega arith
    few_parts (Some code) number = sound_pays.few program code number

    one_turn : (n done : ℕ) (s : State) → Here n done s → After (suc n) (done + one_if (top_is_paid s.frames)) (turn program most s)
    unfolding turn
    one_turn n done s (touched, j, turned, stepped, at, stands) = go (top_is_paid s.frames) refl turned stepped (turn_good s stands) where
      pay : (frames : List (Frame Declared)) → s.frames ≡ frames → top_is_paid frames ≡ false → n ≤ 2 * j → j ≤ 7 * done → RunGood (paid_run s (charge_all most (amounts program [] s) s.account))
          → After (suc n) (done + 0) (paid_run s (charge_all most (amounts program [] s) s.account))
      pay [] e unpaid turned stepped good = absurd (let no : true ≡ false = unpaid in cc)
      pay (x ∷ below) e unpaid turned stepped good = pays_to n done s touched j turned stepped at stands x below e
          (length (part_at (groups_in program (code_of program x.method)) x.number)) (few_parts (code_of program x.method) x.number) (charge_all most (amounts program [] s) s.account) good
          (sound_pays.pays program sound base.object most touched s x below e stands.standing unpaid stands.below)

      go : (b : Bool) → top_is_paid s.frames ≡ b → n ≤ 2 * j + one_if b → j ≤ 7 * done + 6 * one_if b
          → RunGood (if b then answer_run (step program [] (metered_terms most) s) else paid_run s (charge_all most (amounts program [] s) s.account))
          → After (suc n) (done + one_if b) (if b then answer_run (step program [] (metered_terms most) s) else paid_run s (charge_all most (amounts program [] s) s.account))
      go true e turned stepped good = acted n done s touched j turned (omega (arith, stepped)) at stands (step program [] (metered_terms most) s) good
          (sound_acts program sound quiet base.object most touched s stands.standing (top_alike s.frames ∙ e, stands.waiting))
      go false e turned stepped good = pay s.frames refl e (omega (arith, turned)) (omega (arith, stepped)) good

    -- ---- all turns

    all_turns : (m n done : ℕ) (s : State) → Here n done s → (total all : ℕ) → total ≡ n + m → all ≡ done + acts_from program most m s → RunFollows program most entry input total all (turns program most m s)
    unfolding turns acts_from
    all_turns zero n done s (touched, j, turned, stepped, at, stands) total all t a =
        let most_one = one_at_most (top_is_paid s.frames) in
        (touched, j, omega (arith, turned, t, most_one), omega (arith, stepped, a, most_one), at, stands)
    all_turns (suc m) n done s here total all t a =
        go (turn program most s) (one_turn n done s here) a (λ u now same. all_turns m (suc n) (done + one_if (top_is_paid s.frames)) u now total all (omega (arith, t)) same) where
          go : (r : Run) → After (suc n) (done + one_if (top_is_paid s.frames)) r → all ≡ done + (one_if (top_is_paid s.frames) + then_acts (acts_from program most m) r)
              → ((u : State) → Here (suc n) (done + one_if (top_is_paid s.frames)) u → all ≡ done + one_if (top_is_paid s.frames) + acts_from program most m u
              → RunFollows program most entry input total all (turns program most m u))
              → RunFollows program most entry input total all (then_turn (turns program most m) r)
          go (Underway u) now a more = more u now (omega (arith, a))
          go (RunEnds outcome costs) (j, within, u, finished, same) a more = (j, omega (arith, within, a), u, finished, same)
          go Stuck now a more = absurd now

    -- ---- from the start

    begins_so : begun ≡ answer_image program false (begin program [] (metered_terms most) entry input [])
    begins_so = begins program base.object (plain_terms most) entry input [] ∙ ap (answer_image program false) (counts.begins program [] None most entry input [])

    start_good : IsEntry program entry → RunGood (answer_run (begin program [] (metered_terms most) entry input []))
    unfolding metered_run turns
    start_good is = go (begin program [] (metered_terms most) entry input []) (runs_stay_sound.begins program [] (metered_terms most) entry input [] sound is) (begin_waits program [] (metered_terms most) entry input [])
        (costs_stay_within.runs program entry input most 0) (begin_below program base None most entry input []) (few_frames.begins program [] (metered_terms most) entry input []) where
          go : (a : StepAnswer) → AnswerStands program a → AnswerWaits a → RunWithin most no_costs (then_turn (turns program most 0) (answer_run a)) → AnswerBelow program a → AnswerFew a → RunGood (answer_run a)
          go (Went s) standing waiting within below few = record { standing = standing; waiting = waiting; paid = within.0; below = below; few = few }
          go (Ended outcome s) standing waiting within below few = tt
          go IllFormed standing waiting within below few = standing

    pub follows : IsEntry program entry → (n : ℕ) → Follows program most entry input n
    unfolding metered_run steps
    follows is n = go (begin program [] (metered_terms most) entry input []) (start_good is) begins_so where
      go : (a : StepAnswer) → RunGood (answer_run a) → begun ≡ answer_image program false a
          → RunFollows program most entry input n (then_acts (acts_from program most n) (answer_run a)) (then_turn (turns program most n) (answer_run a))
      go (Went s) good e = all_turns n 0 0 s (false, 0, omega arith, omega arith, ap (from_start (steps (rewritten program) sandbox_prefix (plain_terms most) 0)) e, good) n (acts_from program most n s) (omega arith) (omega arith)
      go (Ended outcome s) good e = (0, omega arith, state_image program false s, ap (from_start (steps (rewritten program) sandbox_prefix (plain_terms most) 0)) e, refl)
      go IllFormed good e = absurd good

    -- ---- ends

    ends : ((n : ℕ) → Follows program most entry input n) → (outcome : Outcome) (costs : Costs) → RunsTo program entry input most outcome costs
        → (j : ℕ) × ((k : ℕ) → j ≤ k → plain_run (rewritten program) sandbox_prefix (plain_terms most) (declared_map in_sandbox entry) input [] k
        ≡ Some (record { outcome = outcome_map in_sandbox outcome; costs = costs; steps = j; taken = 0 }))
    unfolding plain_run
    ends all outcome costs (n, e) = go (subst (RunFollows program most entry input n (acts program entry input most n)) e (all n)) where
      go : RunFollows program most entry input n (acts program entry input most n) (RunEnds outcome costs)
          → (j : ℕ) × ((k : ℕ) → j ≤ k → report_of [] k (N k) ≡ Some (record { outcome = outcome_map in_sandbox outcome; costs = costs; steps = j; taken = 0 }))
      go (j, within, t, finished, same) = (
        j,
        λ k l.
            let later : N k ≡ Finished (outcome_map in_sandbox outcome) t j = from_start_stays (rewritten program) sandbox_prefix (plain_terms most) j k begun l (subst IsOver (sym finished) tt) ∙ finished in
            let none : taken_of [] t ≡ 0 = omega arith in
            ap (report_of [] k) later
            ∙ (ap (λ c. Some (record { outcome = outcome_map in_sandbox outcome; costs = c; steps = j; taken = taken_of [] t })) same
            ∙ ap (λ m. Some (record { outcome = outcome_map in_sandbox outcome; costs = costs; steps = j; taken = m })) none),
      )

    weaker : (n done : ℕ) (r : Run) → RunFollows program most entry input n done r → back.Follows (rewritten program) sandbox_prefix (plain_terms most) begun (metered_run program entry input most) n r
    weaker n done (Underway s) (touched, j, turned, stepped, going, stands) = (j, turned, state_image program touched s, going)
    weaker n done (RunEnds outcome costs) (j, within, t, finished, same) = (j, t, j, finished, same)
    weaker n done Stuck f = f

    comes_back : ((n : ℕ) → Follows program most entry input n) → (k : ℕ) (report : Report)
        → plain_run (rewritten program) sandbox_prefix (plain_terms most) (declared_map in_sandbox entry) input [] k ≡ Some report → IsNotSpent report.outcome
        → (outcome : Outcome) × RunsTo program entry input most outcome report.costs × (outcome_map in_sandbox outcome ≡ report.outcome)
    unfolding plain_run
    comes_back all k report e unspent = go (N k) refl e where
      go : (r : Ran) → N k ≡ r → report_of [] k r ≡ Some report → (outcome : Outcome) × RunsTo program entry input most outcome report.costs × (outcome_map in_sandbox outcome ≡ report.outcome)
      go (Going s) at e =
          let same : record { outcome = outcomes.OutOfSteps k; costs = s.account.costs; steps = k; taken = taken_of [] s } ≡ report = cc in
          absurd (subst IsNotSpent (sym (ap (λ (r : Report). r.outcome) same)) unspent)
      go (Finished outcome s m) at e =
          let same : record { outcome = outcome; costs = s.account.costs; steps = m; taken = taken_of [] s } ≡ report = cc in
          let found = back.back (rewritten program) sandbox_prefix (plain_terms most) begun (metered_run program entry input most) (λ n. weaker n (acts program entry input most n) (metered_run program entry input most n) (all n)) k m outcome s at in (
            found.1,
            (found.0, found.2 ∙ ap (RunEnds found.1) (ap (λ (r : Report). r.costs) same)),
            found.3 ∙ ap (λ (r : Report). r.outcome) same,
          )
      go NoStep at e = absurd (none-some report e)

    pub meters : IsEntry program entry → Meters program most entry input
    meters is = record { follows = follows is; ends = ends (follows is); back = comes_back (follows is) }

    -- ---- with a limit on the heap's bytes

    full_or_not : (limit : ℕ) (outcome : Outcome) → IsFull limit outcome → IsNotFull outcome → ⊥
    full_or_not limit (outcomes.HeapFull used size) full not_full = not_full
    full_or_not limit outcomes.OkNull full not_full = full
    full_or_not limit (outcomes.OkBytes bytes) full not_full = full
    full_or_not limit (outcomes.Threw class message) full not_full = full
    full_or_not limit (outcomes.Init class exception message) full not_full = full
    full_or_not limit outcomes.Link full not_full = full
    full_or_not limit outcomes.TooDeep full not_full = full
    full_or_not limit (outcomes.Stopped charge) full not_full = full
    full_or_not limit (outcomes.OutOfSteps steps) full not_full = full

    pub limited_ends : IsEntry program entry → (limit k : ℕ) (report : Report)
        → plain_run (rewritten program) sandbox_prefix (terms_with (Some limit) (Accounted most)) (declared_map in_sandbox entry) input [] k ≡ Some report
        → IsNotSpent report.outcome → IsNotFull report.outcome
        → (outcome : Outcome) × RunsTo program entry input most outcome report.costs × (outcome_map in_sandbox outcome ≡ report.outcome)
    unfolding plain_run
    limited_ends is limit k report e unspent not_full = go (from_start (steps (rewritten program) sandbox_prefix terms k) first)
        (run_limited (rewritten program) sandbox_prefix limit (Accounted most) k first begun (begin_limited (rewritten program) sandbox_prefix limit (Accounted most) (declared_map in_sandbox entry) input [])) e where
          terms : Terms
          terms = terms_with (Some limit) (Accounted most)

          first : StepAnswer
          first = begin (rewritten program) sandbox_prefix terms (declared_map in_sandbox entry) input []

          go : (r : Ran) → RanLimited limit r (N k) → report_of [] k r ≡ Some report
              → (outcome : Outcome) × RunsTo program entry input most outcome report.costs × (outcome_map in_sandbox outcome ≡ report.outcome)
          go r (inl same) e = comes_back (follows is) k report (ap (report_of [] k) (sym same) ∙ e) unspent
          go (Going s) (inr both) e = absurd both.0
          go (Finished outcome s m) (inr both) e =
              let same : record { outcome = outcome; costs = s.account.costs; steps = m; taken = taken_of [] s } ≡ report = cc in
              absurd (full_or_not limit outcome both.0 (subst IsNotFull (sym (ap (λ (r : Report). r.outcome) same)) not_full))
          go NoStep (inr both) e = absurd both.0
