-- The plain run of the rewritten program ends within so many steps, and its heap stays within so many bytes.
use Rattle.std.proofs.Common.{◌≡◌, ℕ, zero, suc, ◌+◌, ◌-◌, ◌*◌, ◌≤◌, Bool, true, false, List, [], ◌∷◌, length, Some, None, nat_le, refl, sym, ap, subst, ◌∙◌, inl, inr, arith, if◌then◌else◌}
use Rattle.std.proofs.lemmas.Bool.Decides.{nat_tests}
use Rattle.dj_names.specs.declared.run.Charge.{Charge}
use Rattle.dj_names.specs.declared.run.Costs.{Costs}
use Rattle.dj_names.specs.declared.run.Outcome.{Outcome}
use Rattle.dj_names.specs.declared.run.Outcome.TheVariants as outcomes
use Rattle.dj_names.specs.declared.run.Thresholds.{Thresholds}
use Rattle.dj_names.specs.Types.{in_sandbox, sandbox_prefix}
use Rattle.dj_model.specs.trusted.Types.{Prefix, Declared}
use Rattle.dj_model.specs.Types.{declared_map}
use Rattle.dj_model.specs.trusted.Program.{Program, code_of}
use Rattle.dj_model.specs.trusted.State.{Terms, Account, Frame, State}
use Rattle.dj_model.specs.trusted.Charging.{Charged, Fine, Over}
use Rattle.dj_model.specs.trusted.Initialisation.{Initialised, Ready, Waits, Fails, initialise}
use Rattle.dj_model.specs.trusted.Step.{StepAnswer, Went, Ended, IllFormed, step}
use Rattle.dj_model.specs.trusted.Runs.{Ran, Going, Finished, NoStep, one_more, then_steps, from_start, steps, input_heap, start_state, begun, begin, report_of, taken_of, plain_run}
use Rattle.dj_model.specs.Charging.{charge_all}
use Rattle.dj_model.specs.Mapping.{outcome_map}
use Rattle.dj_model.specs.Runs.{Run, Underway, RunEnds, Stuck, RunsTo, amounts, top_is_paid, paid_run, answer_run, metered_terms, turn, then_turn, turns, metered_run}
use Rattle.dj_model.specs.Sound.{IsSound}
use Rattle.dj_model.specs.Standing.{AsksNothing, IsReady, AreStanding, IsEntry}
use Rattle.dj_groups.specs.Rewritten.{rewritten}
use Rattle.dj_sim.specs.Counting.{CountsAs}
use Rattle.dj_sim.specs.Metering.{acts, Stands, plain_after, RunFollows, Meters}
use Rattle.dj_sim.specs.Objects.{HasBase}
use Rattle.dj_sim.specs.Simulation.{groups_in, part_at, state_image, plain_terms, EndsWithin, PaidImage, with_stop, answer_image}
use Rattle.dj_sim.proofs.Back.{IsOver, from_start_stays}
use Rattle.dj_sim.proofs.LawProofs.{begins, counts, sound_acts, sound_pays}
use Rattle.dj_sim.proofs.Metering.{adds, start_on, first_step, one_end, thrown_ends, meters}
use Rattle.dj_sim.proofs.Places.{either}
use Rattle.dj_sim.proofs.Waiting.{top_alike}
use Rattle.dj_bounds.specs.Acts.{way, AreShort, most_ways}
use Rattle.dj_bounds.specs.Bytes.{literal_bytes, most_bytes}
use Rattle.dj_bounds.specs.Laws.{RanWithin, IsWorkBounded, WorkIsBounded}
use Rattle.dj_bounds.proofs.Acting.{arrived_once}
use Rattle.dj_bounds.proofs.Levels.{AnswerHas, IsNoLess, step_no_less, InitLevel, initialise_level}
use Rattle.dj_bounds.proofs.MeteredBounds.{Holds, RunHolds, run_holds, acts_within_ways}
use Rattle.dj_bounds.proofs.Rooms.{AnswerRoom, step_room}

-- ---- a heap that is within the bytes later was so before

module _ (program : Program) (prefix : Prefix) (terms : Terms) (bytes : ℕ) where
  abbrev IsWithin : State → Type 0
  IsWithin s = s.heap.used ≤ bytes + literal_bytes s.literals

  more_within : (r : Ran) → RanWithin bytes (one_more r) → RanWithin bytes r
  more_within (Going s) k = k
  more_within (Finished outcome s n) k = k
  more_within NoStep k = k

  within_more : (r : Ran) → RanWithin bytes r → RanWithin bytes (one_more r)
  within_more (Going s) k = k
  within_more (Finished outcome s n) k = k
  within_more NoStep k = k

  was_within : (d : ℕ) (s : State) → RanWithin bytes (steps program prefix terms d s) → IsWithin s
  unfolding steps
  was_within zero s k = k
  was_within (suc d) s k = go (step program prefix terms s) (step_no_less program prefix terms s) k (λ t within. was_within d t within) where
    go : (a : StepAnswer) → AnswerHas (IsNoLess s) a → RanWithin bytes (then_steps (steps program prefix terms d) a) → ((t : State) → RanWithin bytes (steps program prefix terms d t) → IsWithin t) → IsWithin s
    go (Went t) less k more = omega (arith, less, more t (more_within (steps program prefix terms d t) k))
    go (Ended outcome t) less k more = omega (arith, less, k)
    go IllFormed less k more = absurd k

  earlier : (k d : ℕ) (s : State) → RanWithin bytes (steps program prefix terms (k + d) s) → RanWithin bytes (steps program prefix terms k s)
  unfolding steps
  earlier zero d s within = let none : 0 + d ≡ d = omega arith in was_within d s (subst (λ (n : ℕ). RanWithin bytes (steps program prefix terms n s)) none within)
  earlier (suc k) d s within =
      let next : suc k + d ≡ suc (k + d) = omega arith in
      go (step program prefix terms s) (subst (λ (n : ℕ). RanWithin bytes (steps program prefix terms n s)) next within) (λ t k2. earlier k d t k2) where
        go : (a : StepAnswer) → RanWithin bytes (then_steps (steps program prefix terms (k + d)) a) → ((t : State) → RanWithin bytes (steps program prefix terms (k + d) t) → RanWithin bytes (steps program prefix terms k t))
            → RanWithin bytes (then_steps (steps program prefix terms k) a)
        go (Went t) k2 more = within_more (steps program prefix terms k t) (more t (more_within (steps program prefix terms (k + d) t) k2))
        go (Ended outcome t) k2 more = k2
        go IllFormed k2 more = k2

  start_earlier : (k j : ℕ) (a : StepAnswer) → k ≤ j → RanWithin bytes (from_start (steps program prefix terms j) a) → RanWithin bytes (from_start (steps program prefix terms k) a)
  start_earlier k j (Went s) l within = let e : j ≡ k + (j - k) = omega (arith, l) in earlier k (j - k) s (subst (λ (n : ℕ). RanWithin bytes (steps program prefix terms n s)) e within)
  start_earlier k j (Ended outcome s) l within = within
  start_earlier k j IllFormed l within = within

  -- a run that is over is the same ever after
  pub always_within : (k j : ℕ) (a : StepAnswer) → RanWithin bytes (from_start (steps program prefix terms j) a) → IsOver (from_start (steps program prefix terms j) a) → RanWithin bytes (from_start (steps program prefix terms k) a)
  always_within k j a within over = elim (either (nat_le k j)) [
    | inl e ↦ start_earlier k j a (grind (arith, nat_tests, e)) within
    | inr e ↦ subst (RanWithin bytes) (sym (from_start_stays program prefix terms j k a (grind (arith, nat_tests, e)) over)) within
  ]

-- the same after so many steps more
adds_over : (j : ℕ) (r : Ran) → IsOver r → IsOver (adds j r)
adds_over j (Going s) k = k
adds_over j (Finished outcome s n) k = tt
adds_over j NoStep k = tt

adds_within : (j bytes : ℕ) (r : Ran) → RanWithin bytes r → RanWithin bytes (adds j r)
adds_within j bytes (Going s) k = k
adds_within j bytes (Finished outcome s n) k = k
adds_within j bytes NoStep k = k

-- ---- the last turn

-- the last state before the end of a metered run
pub record LastTurn (program : Program) (most : Thresholds) (run : ℕ → Run) (outcome : Outcome) (costs : Costs) : Type 0 where
  pub turn_number : ℕ
  pub state : State
  pub underway : run turn_number ≡ Underway state
  pub ends : turn program most state ≡ RunEnds outcome costs

last_turn : (program : Program) (most : Thresholds) (outcome : Outcome) (costs : Costs) (n : ℕ) (s : State) → turns program most n s ≡ RunEnds outcome costs
    → LastTurn program most (λ m. turns program most m s) outcome costs
unfolding turns
last_turn program most outcome costs zero s e = absurd (let no : Underway s ≡ RunEnds outcome costs = e in cc)
last_turn program most outcome costs (suc n) s e = go (turn program most s) refl e (λ u ended. last_turn program most outcome costs n u ended) where
  go : (r : Run) → turn program most s ≡ r → then_turn (turns program most n) r ≡ RunEnds outcome costs
      → ((u : State) → turns program most n u ≡ RunEnds outcome costs → LastTurn program most (λ m. turns program most m u) outcome costs)
      → LastTurn program most (λ m. turns program most m s) outcome costs
  go (Underway u) here ended more =
      let later = more u ended in
      record { turn_number = suc later.turn_number; state = later.state; underway = ap (then_turn (turns program most later.turn_number)) here ∙ later.underway; ends = later.ends }
  go (RunEnds o c) here ended more = record { turn_number = 0; state = s; underway = refl; ends = here ∙ ended }
  go Stuck here ended more = absurd cc

module _ (program : Program) (sound : IsSound program []) (base : HasBase program) (quiet : AsksNothing program) (short : AreShort program) (most : Thresholds) (input : List ℕ) where
  abbrev R : Program
  R = rewritten program

  abbrev run : ℕ → State → Ran
  run = steps R sandbox_prefix (plain_terms most)

  abbrev room : ℕ
  room = most_bytes most input

  -- from there the run ends, within these bytes
  abbrev EndsSo : State → Type 0
  EndsSo r = (m : ℕ) × IsOver (run m r) × RanWithin room (run m r)

  ends_in : (r t : State) (outcome : Outcome) (m n : ℕ) → run m r ≡ Finished outcome t n → t.heap.used ≤ room + literal_bytes t.literals → EndsSo r
  ends_in r t outcome m n e within = (m, subst IsOver (sym e) tt, subst (RanWithin room) (sym e) within)

  module _ (done : ℕ) (s : State) (touched : Bool) (stands : Stands program most s) (holds : Holds program sound quiet short most input done s) where
    abbrev image : State
    image = state_image program touched s

    at_act : (x : Frame Declared) (below : List (Frame Declared)) → s.frames ≡ x ∷ below → IsReady program x → x.paid ≡ true → (t : State) (outcome : Outcome) → step program [] (metered_terms most) s ≡ Ended outcome t → EndsSo image
    at_act x below frames ready paid t outcome e =
        let few : AnswerRoom program most input s.account.costs.throw (Ended outcome t) =
        subst (AnswerRoom program most input s.account.costs.throw) e (step_room program sound quiet short most input x ready s below frames paid holds.paid holds.room) in
        let acted : step R sandbox_prefix (metered_terms most) image ≡ Ended (outcome_map in_sandbox outcome) (state_image program touched t) =
        sound_acts program sound quiet base.object most touched s stands.standing (top_alike s.frames ∙ (ap top_is_paid frames ∙ paid), stands.waiting) ∙ ap (answer_image program touched) e in
        by few acted (counts.steps R sandbox_prefix None most image) where
          by : AnswerRoom program most input s.account.costs.throw (Ended outcome t) → step R sandbox_prefix (metered_terms most) image ≡ Ended (outcome_map in_sandbox outcome) (state_image program touched t)
              → CountsAs R sandbox_prefix (plain_terms most) image (step R sandbox_prefix (plain_terms most) image) (step R sandbox_prefix (metered_terms most) image) → EndsSo image
          by few acted (inl same) = ends_in image (state_image program touched t) (outcome_map in_sandbox outcome) 1 1 (one_end program most image (state_image program touched t) (outcome_map in_sandbox outcome) (same ∙ acted))
              (omega (arith, few, holds.paid.within.throw))
          by few acted (inr th) = stopped few (thrown_ends program sound base quiet most s touched t outcome _ _ acted th) where
            stopped : AnswerRoom program most input s.account.costs.throw (Ended outcome t)
                → EndsWithin R most (2 * length s.frames) (step R sandbox_prefix (plain_terms most) image) (outcome_map in_sandbox outcome) (with_stop (state_image program touched t)) → EndsSo image
            stopped few (m, within, u, ends, left) = ends_in image u (outcome_map in_sandbox outcome) (suc m) (suc m) (first_step program most image m ∙ ap one_more ends)
                (omega (arith, few, holds.paid.within.throw, left.1, ap literal_bytes left.2))

    at_payment : (x : Frame Declared) (below : List (Frame Declared)) → s.frames ≡ x ∷ below → x.paid ≡ false → (charge : Charge) (account : Account) → charge_all most (amounts program [] s) s.account ≡ Over charge account → EndsSo image
    at_payment x below frames unpaid charge account over =
        go (subst (PaidImage program R most (length (part_at (groups_in program (code_of program x.method)) x.number)) touched s x below) over
        (sound_pays.pays program sound base.object most touched s x below frames stands.standing unpaid stands.below)) where
          go : PaidImage program R most (length (part_at (groups_in program (code_of program x.method)) x.number)) touched s x below (Over charge account) → EndsSo image
          go (m, within, u, ends, left) = ends_in image u (outcomes.Stopped charge) m m ends
              (omega (arith, holds.room, holds.paid.within.alloc, holds.paid.within.throw, arrived_once program s.frames, left.1, ap literal_bytes left.2))

    last_within : (outcome : Outcome) (costs : Costs) → turn program most s ≡ RunEnds outcome costs → EndsSo image
    unfolding turn
    last_within outcome costs e = by s.frames refl stands.standing e where
      by : (frames : List (Frame Declared)) → s.frames ≡ frames → AreStanding program frames
          → (if top_is_paid frames then answer_run (step program [] (metered_terms most) s) else paid_run s (charge_all most (amounts program [] s) s.account)) ≡ RunEnds outcome costs → EndsSo image
      by [] frames standing e = absurd standing
      by (x ∷ below) frames standing e = go x.paid refl e where
        after_act : x.paid ≡ true → (a : StepAnswer) → step program [] (metered_terms most) s ≡ a → answer_run a ≡ RunEnds outcome costs → EndsSo image
        after_act paid (Went t) here e = absurd cc
        after_act paid (Ended o t) here e = at_act x below frames standing.0 paid t o here
        after_act paid IllFormed here e = absurd cc

        after_payment : x.paid ≡ false → (c : Charged) → charge_all most (amounts program [] s) s.account ≡ c → paid_run s c ≡ RunEnds outcome costs → EndsSo image
        after_payment unpaid (Fine account) here e = absurd cc
        after_payment unpaid (Over charge account) here e = at_payment x below frames unpaid charge account here

        go : (b : Bool) → x.paid ≡ b → (if b then answer_run (step program [] (metered_terms most) s) else paid_run s (charge_all most (amounts program [] s) s.account)) ≡ RunEnds outcome costs → EndsSo image
        go true paid e = after_act paid (step program [] (metered_terms most) s) refl e
        go false unpaid e = after_payment unpaid (charge_all most (amounts program [] s) s.account) refl e

  -- ---- whole runs

  module _ (entry : Declared) (is : IsEntry program entry) where
    abbrev N : ℕ → Ran
    N j = plain_after program most entry input j

    abbrev start_of : StepAnswer
    start_of = begin R sandbox_prefix (plain_terms most) (declared_map in_sandbox entry) input []

    simulated : Meters program most entry input
    simulated = meters program sound base quiet most entry input is

    few_acts : (n : ℕ) → acts program entry input most n ≤ way * most_ways program most
    few_acts n = acts_within_ways program sound quiet short most input _ _ (run_holds program sound quiet short most input entry is n)

    -- enough turns, and what follows of them
    enough : ℕ
    enough = 14 * (way * most_ways program most) + 14

    pub record HasEnded : Type 0 where
      pub outcome : Outcome
      pub costs : Costs
      pub ends : RunsTo program entry input most outcome costs
      pub steps : ℕ
      pub few : steps ≤ 7 * (way * most_ways program most) + 2055
      pub end : State
      pub finished : N steps ≡ Finished (outcome_map in_sandbox outcome) end steps
      pub same : end.account.costs ≡ costs

    has_ended : HasEnded
    unfolding enough
    has_ended = go (metered_run program entry input most enough) refl (simulated.follows enough) where
      go : (r : Run) → metered_run program entry input most enough ≡ r → RunFollows program most entry input enough (acts program entry input most enough) r → HasEnded
      go (Underway s) e (touched, j, turned, stepped, at, stands) = absurd (omega (arith, turned, stepped, few_acts enough))
      go (RunEnds outcome costs) e (j, within, t, finished, same) = record {
        outcome = outcome;
        costs = costs;
        ends = (enough, e);
        steps = j;
        few = omega (arith, within, few_acts enough);
        end = t;
        finished = finished;
        same = same;
      }
      go Stuck e f = absurd f

    -- ---- the plain run's end

    reported : (h : HasEnded) (k : ℕ) → h.steps ≤ k → plain_run R sandbox_prefix (plain_terms most) (declared_map in_sandbox entry) input [] k
        ≡ Some (record { outcome = outcome_map in_sandbox h.outcome; costs = h.costs; steps = h.steps; taken = 0 })
    unfolding plain_run
    reported h k l =
        let later : N k ≡ Finished (outcome_map in_sandbox h.outcome) h.end h.steps =
        from_start_stays R sandbox_prefix (plain_terms most) h.steps k start_of l (subst IsOver (sym h.finished) tt) ∙ h.finished in
        let none : taken_of [] h.end ≡ 0 = omega arith in
        ap (report_of [] k) later
        ∙ (ap (λ c. Some (record { outcome = outcome_map in_sandbox h.outcome; costs = c; steps = h.steps; taken = taken_of [] h.end })) h.same
        ∙ ap (λ m. Some (record { outcome = outcome_map in_sandbox h.outcome; costs = h.costs; steps = h.steps; taken = m })) none)

    -- ---- its bytes

    begins_so : start_of ≡ answer_image program false (begin program [] (metered_terms most) entry input [])
    begins_so = begins program base.object (plain_terms most) entry input [] ∙ ap (answer_image program false) (counts.begins program [] None most entry input [])

    -- there is a step at which the run is over, within the bytes
    abbrev OverWithin : Type 0
    OverWithin = (j : ℕ) × IsOver (N j) × RanWithin room (N j)

    -- from the image of the last state
    further : (j : ℕ) (a : StepAnswer) (r : State) → from_start (run j) a ≡ Going r → EndsSo r → (k : ℕ) × IsOver (from_start (run k) a) × RanWithin room (from_start (run k) a)
    further j a r e (m, over, within) =
        let on : from_start (run (j + m)) a ≡ adds j (run m r) = start_on program most j m a r e in
        (j + m, subst IsOver (sym on) (adds_over j (run m r) over), subst (RanWithin room) (sym on) (adds_within j room (run m r) within))

    from_last : (n : ℕ) (s : State) (outcome : Outcome) (costs : Costs) → metered_run program entry input most n ≡ Underway s → turn program most s ≡ RunEnds outcome costs → OverWithin
    from_last n s outcome costs at ends =
        go (subst (RunFollows program most entry input n (acts program entry input most n)) at (simulated.follows n))
        (subst (RunHolds program sound quiet short most input (acts program entry input most n)) at (run_holds program sound quiet short most input entry is n)) where
          go : RunFollows program most entry input n (acts program entry input most n) (Underway s) → RunHolds program sound quiet short most input (acts program entry input most n) (Underway s) → OverWithin
          go (touched, j, turned, stepped, going, stands) holds =
              further j start_of (state_image program touched s) going (last_within (acts program entry input most n) s touched stands holds outcome costs ends)

    -- where the run has ended at once
    at_once : (outcome : Outcome) (t : State) → begin program [] (metered_terms most) entry input [] ≡ Ended outcome t → OverWithin
    unfolding begin steps
    at_once outcome t e = (0, subst IsOver (sym over) tt, subst (RanWithin room) (sym over) (fails (initialise program [] (metered_terms most) entry.class start) (initialise_level program [] (metered_terms most) start entry.class) e)) where
      start : State
      start = start_state program entry (input_heap input) []

      over : N 0 ≡ Finished (outcome_map in_sandbox outcome) (state_image program false t) 0
      over = ap (from_start (run 0)) (begins_so ∙ ap (answer_image program false) e)

      fails : (i : Initialised) → InitLevel program [] (metered_terms most) start i → begun i ≡ Ended outcome t → t.heap.used ≤ room + literal_bytes t.literals
      fails (Ready u) level e = absurd cc
      fails (Waits u) level e = absurd cc
      fails (Fails o u) level e = let same : u ≡ t = cc in omega (arith, level.0, ap (λ (s : State). s.heap.used) same, ap (λ (s : State). literal_bytes s.literals) same)

    over_within : HasEnded → OverWithin
    unfolding metered_run
    over_within h = go (begin program [] (metered_terms most) entry input []) refl h.ends.1 where
      go : (a : StepAnswer) → begin program [] (metered_terms most) entry input [] ≡ a → then_turn (turns program most h.ends.0) (answer_run a) ≡ RunEnds h.outcome h.costs → OverWithin
      go (Went s) at e =
          let l = last_turn program most h.outcome h.costs h.ends.0 s e in
          from_last l.turn_number l.state h.outcome h.costs (ap (λ (a : StepAnswer). then_turn (turns program most l.turn_number) (answer_run a)) at ∙ l.underway) l.ends
      go (Ended outcome t) at e = at_once outcome t at
      go IllFormed at e = absurd cc

    pub bounded : IsWorkBounded program entry most input
    bounded =
        let h = has_ended in
        let o = over_within h in
        record {
          acts = few_acts;
          outcome = h.outcome;
          costs = h.costs;
          ends = h.ends;
          steps = h.steps;
          few = omega (arith, h.few);
          plain = reported h;
          bytes = λ k. always_within R sandbox_prefix (plain_terms most) room k o.0 start_of o.2 o.1;
        }

pub work_bounded : WorkIsBounded
work_bounded program sound base quiet short entry is most input = bounded program sound base quiet short most input entry is
