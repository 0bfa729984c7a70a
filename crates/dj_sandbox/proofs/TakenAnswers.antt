-- A plain run of an entry of a sound program ends or makes all of its steps under some answers of the host, all of which it takes.
use Rattle.std.proofs.Common.{◌≡◌, ℕ, zero, suc, ◌-◌, List, [], ◌∷◌, length, Some, refl, sym, ap, ◌∙◌, subst, inl, inr, arith}
use Rattle.dj_edge.specs.declared.host.HostAnswer.{HostAnswer}
use Rattle.dj_names.specs.declared.run.Outcome.{Outcome}
use Rattle.dj_names.specs.trusted.Heaps.{object_size}
use Rattle.dj_model.specs.trusted.Types.{Prefix, Declared}
use Rattle.dj_model.specs.trusted.Program.{Program}
use Rattle.dj_model.specs.trusted.State.{Terms, State}
use Rattle.dj_model.specs.trusted.Arrays.{passes_limit}
use Rattle.dj_model.specs.trusted.Initialisation.{Initialised, Ready, Waits, Fails, initialise}
use Rattle.dj_model.specs.trusted.Step.{StepAnswer, Went, Ended, IllFormed, step}
use Rattle.dj_model.specs.Sound.{IsSound}
use Rattle.dj_model.specs.Standing.{AreStanding, AnswerStands, IsStarvedAt, IsEntry}
use Rattle.dj_model.specs.trusted.Runs.{input_array, input_heap, start_state, begun, begin, Ran, Going, Finished, NoStep, one_more, then_steps, steps, from_start, Report, report_of, plain_run}
use Rattle.dj_model.proofs.SoundRuns.{step_stands, begin_stands}
use Rattle.dj_sandbox.proofs.GivenEffects.{both_ways}
use Rattle.dj_sandbox.proofs.GivenSteps.{state_given, initialised_given, answer_given, Moves, MovesAfter, initialise_alike, step_moves, IsAsking, starved_none, starved_waits}

-- ---- the steps of a run

-- the run goes on or has ended, and none of the answers is left
abbrev NoneLeft : Ran → Type 0
NoneLeft (Going s) = s.answers ≡ []
NoneLeft (Finished outcome s n) = s.answers ≡ []
NoneLeft NoStep = ⊥

one_more_left : (r : Ran) → NoneLeft r → NoneLeft (one_more r)
one_more_left (Going s) none = none
one_more_left (Finished outcome s n) none = none
one_more_left NoStep none = none

module _ (program : Program) (prefix : Prefix) (is : IsSound program prefix) (terms : Terms) where
  -- this many steps from the state take all of these answers
  abbrev TakesAll : ℕ → State → List HostAnswer → Type 0
  TakesAll n s answers = NoneLeft (steps program prefix terms n (state_given answers s))

  -- the first step ends the run, and leaves none of these answers
  ends_so : (n : ℕ) (s : State) (answers : List HostAnswer) (outcome : Outcome) (t : State) → step program prefix terms (state_given answers s) ≡ Ended outcome (state_given [] t)
      → TakesAll (suc n) s answers
  unfolding steps
  ends_so n s answers outcome t e = subst (λ (a : StepAnswer). NoneLeft (then_steps (steps program prefix terms n) a)) (sym e) refl

  -- the first step leaves the answers that the steps after it take
  goes_so : (n : ℕ) (s : State) (answers : List HostAnswer) (t : State) (rest : List HostAnswer) → step program prefix terms (state_given answers s) ≡ Went (state_given rest t)
      → TakesAll n t rest → TakesAll (suc n) s answers
  unfolding steps
  goes_so n s answers t rest e takes =
      subst (λ (a : StepAnswer). NoneLeft (then_steps (steps program prefix terms n) a)) (sym e) (one_more_left (steps program prefix terms n (state_given rest t)) takes)

  -- such answers for a step fewer
  abbrev Later : ℕ → Type 0
  Later n = (t : State) → AreStanding program t.frames → (answers : List HostAnswer) × TakesAll n t answers

  -- the first step asks nothing
  quiet_step : (n : ℕ) → Later n → (s : State) (a : StepAnswer) → step program prefix terms (state_given [] s) ≡ a → AnswerStands program a
      → ((given : List HostAnswer) → MovesAfter given a (step program prefix terms (state_given given s))) → (answers : List HostAnswer) × TakesAll (suc n) s answers
  quiet_step n later s IllFormed e stands moves = absurd stands
  quiet_step n later s (Ended outcome t) e stands moves = ([], ends_so n s [] outcome t (moves []))
  quiet_step n later s (Went t) e stands moves = let rest = later t stands in (rest.0, goes_so n s rest.0 t rest.0 (moves rest.0) rest.1)

  -- the first step waits for an answer
  asking_step : (n : ℕ) → Later n → (s : State) (reply : HostAnswer) (a : StepAnswer) → ((given : List HostAnswer) → Moves given a (step program prefix terms (state_given (reply ∷ given) s)))
      → AnswerStands program (step program prefix terms (state_given (reply ∷ []) s)) → (answers : List HostAnswer) × TakesAll (suc n) s answers
  asking_step n later s reply IllFormed moves stands = absurd (moves [])
  asking_step n later s reply (Ended outcome t) moves stands = (reply ∷ [], ends_so n s (reply ∷ []) outcome t (moves []))
  asking_step n later s reply (Went t) moves stands =
      let rest = later t (subst (AnswerStands program) (moves []) stands) in
      (reply ∷ rest.0, goes_so n s (reply ∷ rest.0) t rest.0 (moves rest.0) rest.1)

  not_starved : (s : State) (a : StepAnswer) (given : List HostAnswer) → Moves given a (step program prefix terms s) → IsStarvedAt program prefix terms s → ⊥
  not_starved s IllFormed given moves starved = absurd moves
  not_starved s (Ended outcome t) given moves starved = (let e : Ended outcome (state_given given t) ≡ IllFormed = sym moves ∙ starved_none program prefix terms s starved in absurd cc)
  not_starved s (Went t) given moves starved = (let e : Went (state_given given t) ≡ IllFormed = sym moves ∙ starved_none program prefix terms s starved in absurd cc)

  waiting_step : (n : ℕ) → Later n → (s : State) → AreStanding program s.frames → IsAsking program prefix terms s → (answers : List HostAnswer) × TakesAll (suc n) s answers
  waiting_step n later s k waits = asking_step n later s waits.reply waits.after waits.moves
      (elim (step_stands program prefix is terms (state_given (waits.reply ∷ []) s) k) [
        | inl stands ↦ stands
        | inr starved ↦ absurd (not_starved (state_given (waits.reply ∷ []) s) waits.after [] (waits.moves []) starved)
      ])

  steps_take : (n : ℕ) (s : State) → AreStanding program s.frames → (answers : List HostAnswer) × TakesAll n s answers
  unfolding steps
  steps_take zero s k = ([], refl)
  steps_take (suc n) s k = elim (step_stands program prefix is terms (state_given [] s) k) [
    | inl stands ↦ quiet_step n (steps_take n) s (step program prefix terms (state_given [] s)) refl stands (λ given. step_moves given program prefix terms s)
    | inr starved ↦ waiting_step n (steps_take n) s k (starved_waits program prefix terms s starved)
  ]

  -- ---- the start

  begun_alike : (given : List HostAnswer) (i : Initialised) → begun (initialised_given given i) ≡ answer_given given (begun i)
  begun_alike given (Ready s) = refl
  begun_alike given (Waits s) = refl
  begun_alike given (Fails outcome s) = refl

  begin_alike : (given : List HostAnswer) (entry : Declared) (input : List ℕ)
      → begin program prefix terms entry input given ≡ answer_given given (begin program prefix terms entry input [])
  unfolding begin
  begin_alike given entry input = both_ways (λ (a b : StepAnswer). b ≡ answer_given given a) (passes_limit terms.limit (object_size (input_array input))) _ _ _ _ refl
      (ap begun (initialise_alike given program prefix terms entry.class (start_state program entry (input_heap input) []))
      ∙ begun_alike given (initialise program prefix terms entry.class (start_state program entry (input_heap input) [])))

  -- ---- the run

  -- it is reported, and all of the answers are taken
  abbrev Reported : List HostAnswer → ℕ → Ran → Type 0
  Reported answers most r = (said : Report) × (report_of answers most r ≡ Some said) × (said.taken ≡ length answers)

  all_taken : (answers left : List HostAnswer) → left ≡ [] → length answers - length left ≡ length answers
  all_taken answers left none = let e : length left ≡ 0 = ap length none in omega (arith, e)

  reported : (answers : List HostAnswer) (most : ℕ) (r : Ran) → NoneLeft r → Reported answers most r
  reported answers most (Going s) none = (_, refl, all_taken answers s.answers none)
  reported answers most (Finished outcome s n) none = (_, refl, all_taken answers s.answers none)
  reported answers most NoStep none = absurd none

  begun_takes : (most : ℕ) (a : StepAnswer) → AnswerStands program a → (answers : List HostAnswer) × NoneLeft (from_start (steps program prefix terms most) (answer_given answers a))
  begun_takes most IllFormed stands = absurd stands
  begun_takes most (Ended outcome t) stands = ([], refl)
  begun_takes most (Went t) stands = steps_take most t stands

  pub run_takes : (entry : Declared) (input : List ℕ) (most : ℕ) → IsEntry program entry
      → (answers : List HostAnswer) × (said : Report) × (plain_run program prefix terms entry input answers most ≡ Some said) × (said.taken ≡ length answers)
  unfolding plain_run
  run_takes entry input most e =
      let start = begun_takes most (begin program prefix terms entry input []) (begin_stands program prefix is terms entry input [] e) in
      let said = reported start.0 most (from_start (steps program prefix terms most) (answer_given start.0 (begin program prefix terms entry input []))) start.1 in (
        start.0,
        said.0,
        ap (λ (a : StepAnswer). report_of start.0 most (from_start (steps program prefix terms most) a)) (begin_alike start.0 entry input) ∙ said.1,
        said.2,
      )
