-- A metered run does and takes no more than what it has paid.
use Rattle.std.proofs.Common.{◌≡◌, ℕ, zero, suc, ◌+◌, ◌*◌, ◌≤◌, Bool, true, false, List, [], ◌∷◌, refl, ap, subst, inl, inr, arith, if◌then◌else◌}
use Rattle.dj_names.specs.declared.run.Thresholds.{Thresholds}
use Rattle.dj_names.specs.declared.run.Value.TheVariants as values
use Rattle.dj_model.specs.trusted.Types.{Declared}
use Rattle.dj_model.specs.trusted.Program.{Program}
use Rattle.dj_model.specs.trusted.State.{Frame, State, instruction_at}
use Rattle.dj_model.specs.trusted.Charging.{Charged, Fine, Over, no_costs}
use Rattle.dj_model.specs.trusted.Initialisation.{Initialised, Ready, Waits, Fails, new_frame, initialise}
use Rattle.dj_model.specs.trusted.Step.{StepAnswer, Went, Ended, IllFormed, step}
use Rattle.dj_model.specs.trusted.Runs.{input_heap, start_state, begun, begin}
use Rattle.dj_model.specs.Charging.{charge_all}
use Rattle.dj_model.specs.Runs.{Run, Underway, RunEnds, Stuck, amounts, top_is_paid, paid_run, answer_run, metered_terms, turn, then_turn, turns, metered_run}
use Rattle.dj_model.specs.Laws.{IsPaid, RunWithin}
use Rattle.dj_model.specs.Sound.{IsSound}
use Rattle.dj_model.specs.Standing.{AsksNothing, IsReady, AreStanding, AnswerStands, RunStands, IsEntry}
use Rattle.dj_model.proofs.LawProofs.{costs_stay_within, runs_stay_sound}
use Rattle.dj_sim.specs.Metering.{one_if, then_acts, acts_from, acts}
use Rattle.dj_sim.proofs.SoundTurns.{found_there}
use Rattle.dj_bounds.specs.Acts.{way, AreShort, spent, IsBounded, most_ways}
use Rattle.dj_bounds.specs.Bytes.{pending_bytes, HasRoom}
use Rattle.dj_bounds.specs.Laws.{RunIsBounded, MeteredIsBounded}
use Rattle.dj_bounds.proofs.Marks.{InitSpends, initialise_spends}
use Rattle.dj_bounds.proofs.Acting.{acts_within, act_bounded, ways_within, pay_bounded}
use Rattle.dj_bounds.proofs.Levels.{InitLevel, initialise_level}
use Rattle.dj_bounds.proofs.Rooms.{InitPending, initialise_pending, unpaid_bytes, act_room, pay_room}

module _ (program : Program) (sound : IsSound program []) (quiet : AsksNothing program) (short : AreShort program) (most : Thresholds) (input : List ℕ) where
  -- what holds of a state after so many instructions
  pub record Holds (done : ℕ) (s : State) : Type 0 where
    pub standing : AreStanding program s.frames
    pub paid : IsPaid most s.account
    pub bounded : IsBounded program done s
    pub room : HasRoom program input s

  abbrev pub RunHolds : ℕ → Run → Type 0
  RunHolds done (Underway s) = Holds done s
  RunHolds done (RunEnds outcome costs) = done ≤ way * most_ways program most
  RunHolds done Stuck = ⊥

  -- ---- one turn

  module _ (done : ℕ) (s : State) (holds : Holds done s) (x : Frame Declared) (below : List (Frame Declared)) (frames : s.frames ≡ x ∷ below) (ready : IsReady program x) where
    acted : x.paid ≡ true → (a : StepAnswer) → step program [] (metered_terms most) s ≡ a → RunStands program (answer_run a) → RunWithin most s.account.costs (answer_run a) → RunHolds (done + 1) (answer_run a)
    acted paid (Went t) e standing within = record {
      standing = standing;
      paid = within.0;
      bounded = act_bounded program sound quiet short most x ready done s t below frames paid e within.1 holds.bounded;
      room = act_room program sound quiet short most input x ready s below frames paid holds.paid holds.room t e within.1;
    }
    acted paid (Ended outcome t) e standing within = omega (arith, acts_within program sound quiet short most x ready done s below frames holds.bounded, ways_within program most s holds.paid)
    acted paid IllFormed e standing within = absurd standing

    paid_so : x.paid ≡ false → (c : Charged) → charge_all most (amounts program [] s) s.account ≡ c → RunStands program (paid_run s c) → RunWithin most s.account.costs (paid_run s c) → RunHolds (done + 0) (paid_run s c)
    paid_so unpaid (Fine account) e standing within = record {
      standing = standing;
      paid = within.0;
      bounded = omega (arith, pay_bounded program most done s x below ready.at.instruction account frames unpaid (found_there program sound x ready) e holds.bounded);
      room = pay_room program most input s x below ready.at.instruction account frames unpaid (found_there program sound x ready) e holds.room;
    }
    paid_so unpaid (Over charge account) e standing within = omega (arith, holds.bounded, ways_within program most s holds.paid)

  one_turn : (done : ℕ) (s : State) → Holds done s → RunHolds (done + one_if (top_is_paid s.frames)) (turn program most s)
  unfolding turn
  one_turn done s holds = by s.frames refl holds.standing (elim (runs_stay_sound.turns program most s sound holds.standing) [
    | inl k ↦ k
    | inr starved ↦ absurd (runs_stay_sound.quiet program [] (metered_terms most) s quiet starved)
  ]) (costs_stay_within.turns program most s holds.paid) where
    After : Bool → Run
    After b = if b then answer_run (step program [] (metered_terms most) s) else paid_run s (charge_all most (amounts program [] s) s.account)

    by : (frames : List (Frame Declared)) → s.frames ≡ frames → AreStanding program frames → RunStands program (After (top_is_paid frames)) → RunWithin most s.account.costs (After (top_is_paid frames))
        → RunHolds (done + one_if (top_is_paid frames)) (After (top_is_paid frames))
    by [] e standing stands within = absurd standing
    by (x ∷ below) e standing stands within = go x.paid refl stands within where
      go : (b : Bool) → x.paid ≡ b → RunStands program (After b) → RunWithin most s.account.costs (After b) → RunHolds (done + one_if b) (After b)
      go true paid stands within = acted done s holds x below e standing.0 paid (step program [] (metered_terms most) s) refl stands within
      go false unpaid stands within = paid_so done s holds x below e standing.0 unpaid (charge_all most (amounts program [] s) s.account) refl stands within

  -- ---- all turns

  counted : (a b : ℕ) (r : Run) → a ≡ b → RunHolds a r → RunHolds b r
  counted a b r e k = subst (λ (n : ℕ). RunHolds n r) e k

  all_turns : (m done : ℕ) (s : State) → Holds done s → RunHolds (done + acts_from program most m s) (turns program most m s)
  unfolding turns acts_from
  all_turns zero done s holds = counted done (done + 0) (Underway s) (omega arith) holds
  all_turns (suc m) done s holds = go (turn program most s) (one_turn done s holds) (λ u now. all_turns m (done + one_if (top_is_paid s.frames)) u now) where
    go : (r : Run) → RunHolds (done + one_if (top_is_paid s.frames)) r
        → ((u : State) → Holds (done + one_if (top_is_paid s.frames)) u → RunHolds (done + one_if (top_is_paid s.frames) + acts_from program most m u) (turns program most m u))
        → RunHolds (done + (one_if (top_is_paid s.frames) + then_acts (acts_from program most m) r)) (then_turn (turns program most m) r)
    go (Underway u) now more = counted _ _ (turns program most m u) (omega arith) (more u now)
    go (RunEnds outcome costs) now more = omega (arith, now)
    go Stuck now more = absurd now

  -- ---- the start

  module _ (entry : Declared) (is : IsEntry program entry) where
    start : State
    start = start_state program entry (input_heap input) []

    begins : RunHolds 0 (answer_run (begin program [] (metered_terms most) entry input []))
    unfolding begin start metered_run turns
    begins = go (initialise program [] (metered_terms most) entry.class start) (initialise_spends program short [] (metered_terms most) entry.class start) (initialise_level program [] (metered_terms most) start entry.class)
        (initialise_pending program [] (metered_terms most) entry.class start) (runs_stay_sound.begins program [] (metered_terms most) entry input [] sound is) (costs_stay_within.runs program entry input most 0) where
          none_pending : pending_bytes program (new_frame program entry (values.Ref 1 ∷ []) ∷ []) ≡ 0
          none_pending = omega (arith, unpaid_bytes program (new_frame program entry (values.Ref 1 ∷ [])) (instruction_at program (new_frame program entry (values.Ref 1 ∷ []))) refl)

          go : (i : Initialised) → InitSpends program start i → InitLevel program [] (metered_terms most) start i → InitPending program start i → AnswerStands program (begun i)
              → RunWithin most no_costs (then_turn (turns program most 0) (answer_run (begun i))) → RunHolds 0 (answer_run (begun i))
          go (Ready t) spends level pending standing within = record {
            standing = standing;
            paid = within.0;
            bounded = omega (arith, ap (spent program true) spends.0, short entry);
            room = omega (arith, level.0, none_pending, ap (pending_bytes program) spends.0);
          }
          go (Waits t) spends level pending standing within = record {
            standing = standing;
            paid = within.0;
            bounded = omega (arith, spends, short entry);
            room = omega (arith, level.0, none_pending, pending);
          }
          go (Fails outcome t) spends level pending standing within = omega arith

    pub run_holds : (n : ℕ) → RunHolds (acts program entry input most n) (metered_run program entry input most n)
    unfolding metered_run
    run_holds n = go (begin program [] (metered_terms most) entry input []) begins where
      go : (a : StepAnswer) → RunHolds 0 (answer_run a) → RunHolds (then_acts (acts_from program most n) (answer_run a)) (then_turn (turns program most n) (answer_run a))
      go (Went s) holds = counted _ _ (turns program most n s) (omega arith) (all_turns n 0 s holds)
      go (Ended outcome s) holds = omega arith
      go IllFormed holds = absurd holds

  pub is_bounded : (done : ℕ) (r : Run) → RunHolds done r → RunIsBounded program most input done r
  is_bounded done (Underway s) holds = (holds.bounded, holds.room)
  is_bounded done (RunEnds outcome costs) holds = holds
  is_bounded done Stuck holds = holds

  -- however the run goes on
  pub acts_within_ways : (done : ℕ) (r : Run) → RunHolds done r → done ≤ way * most_ways program most
  acts_within_ways done (Underway s) holds = omega (arith, holds.bounded, ways_within program most s holds.paid)
  acts_within_ways done (RunEnds outcome costs) holds = holds
  acts_within_ways done Stuck holds = absurd holds

pub metered_bounded : MeteredIsBounded
metered_bounded program sound quiet short entry is most input n = is_bounded program sound quiet short most input _ _ (run_holds program sound quiet short most input entry is n)
