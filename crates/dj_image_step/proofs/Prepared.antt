-- The initialisation before an instruction, and the step that it begins, are what the model has.
use Rattle.std.proofs.Common.{◌≡◌, ◌<◌, ◌++◌, ℕ, Bool, true, false, List, [], ◌∷◌, length, reverse, Option, Some, None, refl, sym, ap, subst, ◌∙◌, inl, arith, nat_lt, if◌then◌else◌, ◌+◌}
use Rattle.std.specs.Prelude.{Result, Ok, Err, IfOk}
use Rattle.std.specs.declared.alloc.AllocError.{AllocError}
use Rattle.dj_names.specs.declared.run.Outcome.TheVariants as outcomes
use Rattle.dj_names.specs.trusted.Types.{Name}
use Rattle.dj_edge.specs.declared.host.HostAnswer.{HostAnswer}
use Rattle.dj_model.specs.trusted.Types.{Declared, Prefix}
use Rattle.dj_model.specs.trusted.Instructions.{Instruction}
use Rattle.dj_model.specs.trusted.Program.{Program}
use Rattle.dj_model.specs.trusted.Linking.{chain}
use Rattle.dj_model.specs.trusted.State.{Terms, Uncounted, State, Frame, instruction_at}
use Rattle.dj_model.specs.trusted.Charging.{new_account}
use Rattle.dj_model.specs.trusted.Effects.{used_class}
use Rattle.dj_model.specs.trusted.Initialisation.{Initialised, Ready, Waits, Fails, most_frames, mark_all, not_initialised, then_ready, constants_of, initialiser_frames, with_frames, initialise}
use Rattle.dj_model.specs.trusted.Step.{prepared, done, act, step_of, step}
use Rattle.dj_model.specs.Standing.{AreStanding}
use Rattle.dj_model.specs.trusted.Runs as runs
use Rattle.dj_model.specs.trusted.Runs.{empty_heap}
use Rattle.dj_model.specs.Laws.{Grows}
use Rattle.dj_model.proofs.Frames.{KeepsMore, all_constants_keep}
use Rattle.dj_model.proofs.Growth.{grows_same}
use Rattle.dj_model.proofs.StepFits.{AnswerFits, begun_fit, initialise_fit}
use Rattle.dj_stack.specs.Frames.{StackFrame}
use Rattle.dj_natives.specs.Calls.{counting_of}
use Rattle.dj_natives.specs.Counting.{Counter}
use Rattle.dj_natives.specs.Known.{AreKnown}
use Rattle.dj_numbering.specs.Typed.{types_of}
use Rattle.dj_image.specs.Imaged.{Imaged, program_of, typed_of}
use Rattle.dj_current_method.specs.Activations.{frames_seen}
use Rattle.dj_current_method.specs.Instructions.{instruction_of_number}
use Rattle.dj_initialisation.specs.declared.prepare.Prepared.{Prepared}
use Rattle.dj_initialisation.specs.declared.prepare.Prepared.TheVariants as prepares
use Rattle.dj_initialisation.specs.Preparing.{Parts, Prepares, prepared_reported, with_parts}
use Rattle.dj_settling.specs.declared.settled.Settled.{Settled}
use Rattle.dj_settling.specs.declared.settled.Settled.TheVariants as settles
use Rattle.dj_settling.specs.Reported.{reported_of}
use Rattle.dj_settling.specs.Settling.{IsStop, KeepsStop, settled_reported}
use Rattle.dj_image_step.specs.Running.{IsRunning, Running, account_of, state_of, terms_of}
use Rattle.dj_image_step.specs.Doing.{IsStill, IsTop, IsUsed, PreparesNext, TurnsBy, doing, doing_next, doing_on, doing_some, next_of, stepping}
use Rattle.dj_image_step.proofs.Stops.{stop_kept}
use Rattle.dj_image_step.proofs.Tops.{next_is, top_stands}

-- ---- what the initialisation of a class reports

abbrev pub with_run_parts : Running → Parts → Running
with_run_parts r after = record r { parts = after }

pub prepared_class : (imaged : Imaged) (r : Running) (method number class : ℕ) (after : Parts) (result : Prepared) → IsRunning imaged r → IsTop imaged r.parts.frames method number
    → ((i : Instruction) → instruction_of_number imaged method number ≡ Some i → IsUsed imaged i (Some class)) → Prepares imaged class r.parts after result
    → AreKnown (types_of (typed_of imaged)) after.store.heap → PreparesNext imaged r (with_run_parts r after) result
prepared_class imaged r method number class after result running top used p known = record {
  effect = λ i terms s next limit.
      let at : instruction_of_number imaged method number ≡ Some i = sym (next_is imaged r.parts.frames method number top) ∙ next in
      ap (λ (o : Option Name). prepared (program_of imaged) imaged.prefix terms o (with_parts imaged r.parts s)) (used i at).1 ∙ p.effect terms s limit;
  limit = p.limit;
  still = record { flags = p.flags; store = p.are; activations = p.frames running.activations; known = known; counts = running.counts };
  counter = refl;
  stop = refl;
}

pub prepared_then : (imaged : Imaged) (r : Running) (method number class : ℕ) (after : Parts) (result : Result Prepared AllocError) → IsRunning imaged r → IsTop imaged r.parts.frames method number
    → ((i : Instruction) → instruction_of_number imaged method number ≡ Some i → IsUsed imaged i (Some class)) → IfOk result (Prepares imaged class r.parts after)
    → IfOk result (λ _. AreKnown (types_of (typed_of imaged)) after.store.heap) → IfOk result (PreparesNext imaged r (with_run_parts r after))
prepared_then imaged r method number class after (Err e) running top used p known = tt
prepared_then imaged r method number class after (Ok result) running top used p known = prepared_class imaged r method number class after result running top used p known

pub prepared_already : (imaged : Imaged) (r : Running) (method number : ℕ) → IsRunning imaged r → IsTop imaged r.parts.frames method number
    → ((i : Instruction) → instruction_of_number imaged method number ≡ Some i → IsUsed imaged i None) → PreparesNext imaged r r prepares.Ready
prepared_already imaged r method number running top used = record {
  effect = λ i terms s next limit.
      let at : instruction_of_number imaged method number ≡ Some i = sym (next_is imaged r.parts.frames method number top) ∙ next in
      ap (λ (o : Option Name). prepared (program_of imaged) imaged.prefix terms o (with_parts imaged r.parts s)) (used i at);
  limit = refl;
  still = record { flags = running.flags; store = running.store; activations = running.activations; known = running.known; counts = running.counts };
  counter = refl;
  stop = refl;
}

-- ---- where the run may go on at once, its frames are as before, and its heap has only grown

ready_frames : (program : Program) (prefix : Prefix) (terms : Terms) (class : Name) (s t : State) → initialise program prefix terms class s ≡ Ready t → t.frames ≡ s.frames
unfolding initialise KeepsMore
ready_frames program prefix terms class s t e = by (constants_of program prefix terms classes marked) (all_constants_keep program prefix terms classes marked) e where
  classes : List Name
  classes = reverse (not_initialised program s.initialised (chain program class))

  marked : State
  marked = record s { initialised = mark_all program classes s.initialised }

  no_frames : (next : State) (frames : List (Frame Declared)) → with_frames next frames ≡ Ready t → t.frames ≡ next.frames
  no_frames next [] e = let same : next ≡ t = cc in ap (λ (x : State). x.frames) (sym same)
  no_frames next (f ∷ frames) e = deep (nat_lt most_frames (length (f ∷ frames) + length next.frames)) e where
    deep : (b : Bool) → (if b then Fails outcomes.TooDeep next else Waits (record next { frames = f ∷ frames ++ next.frames })) ≡ Ready t → t.frames ≡ next.frames
    deep true e = absurd cc
    deep false e = absurd cc

  by : (i : Initialised) → KeepsMore marked i → then_ready (λ next. with_frames next (initialiser_frames program classes)) i ≡ Ready t → t.frames ≡ s.frames
  by (Ready next) keeps e = no_frames next (initialiser_frames program classes) e ∙ keeps.0
  by (Waits next) keeps e = absurd keeps
  by (Fails outcome next) keeps e = absurd cc

prepared_frames : (program : Program) (prefix : Prefix) (terms : Terms) (used : Option Name) (s t : State) → prepared program prefix terms used s ≡ Ready t → t.frames ≡ s.frames
prepared_frames program prefix terms None s t e = let same : s ≡ t = cc in ap (λ (x : State). x.frames) (sym same)
prepared_frames program prefix terms (Some class) s t e = ready_frames program prefix terms class s t e

prepared_grows : (program : Program) (prefix : Prefix) (limit : Option ℕ) (used : Option Name) (s t : State)
    → prepared program prefix (record { limit = limit; counting = Uncounted }) used s ≡ Ready t → Grows s.heap t.heap
prepared_grows program prefix limit None s t e = let same : s ≡ t = cc in subst (λ (x : State). Grows s.heap x.heap) same (grows_same s.heap)
prepared_grows program prefix limit (Some class) s t e =
    let terms : Terms = record { limit = limit; counting = Uncounted } in
    let fits : AnswerFits program prefix terms s (runs.begun (Ready t)) =
    subst (λ (i : Initialised). AnswerFits program prefix terms s (runs.begun i)) e
    (begun_fit program prefix terms s (initialise program prefix terms class s) (initialise_fit program prefix terms s class s (grows_same s.heap, tt))) in
    fits.0

abbrev bare : State
bare = record { heap = empty_heap; statics = []; initialised = []; literals = []; frames = []; account = new_account; answers = [] }

module _ (imaged : Imaged) (old new : Running) (running : IsRunning imaged old) (is : PreparesNext imaged old new prepares.Ready) where
  abbrev P : Program
  P = program_of imaged

  next : (i : Instruction) × (next_of imaged (frames_seen P old.parts.frames) ≡ Some i)
  next = by old.parts.frames running.standing where
    by : (frames : List StackFrame) → AreStanding P (frames_seen P frames) → (i : Instruction) × (next_of imaged (frames_seen P frames) ≡ Some i)
    by [] standing = absurd standing
    by (f ∷ below) standing = let has = top_stands imaged (f ∷ below) standing in (has.instruction, has.at)

  abbrev plain : Terms
  plain = record { limit = Some old.parts.store.heap.limit; counting = Uncounted }

  pub same_frames : frames_seen P new.parts.frames ≡ frames_seen P old.parts.frames
  same_frames =
      prepared_frames P imaged.prefix plain (used_class P imaged.prefix next.0) (with_parts imaged old.parts bare) (with_parts imaged new.parts bare) (is.effect next.0 plain bare next.1 refl)

  pub ready_running : IsRunning imaged new
  ready_running = record {
    flags = is.still.flags;
    store = is.still.store;
    activations = is.still.activations;
    standing = subst (AreStanding P) (sym same_frames) running.standing;
    known = is.still.known;
    stop = subst (IsStop imaged new.parts.store.heap) (sym is.stop)
        (stop_kept imaged old.parts.store.heap new.parts.store.heap old.stop
        (prepared_grows P imaged.prefix (Some old.parts.store.heap.limit) (used_class P imaged.prefix next.0) (with_parts imaged old.parts bare) (with_parts imaged new.parts bare)
        (is.effect next.0 plain bare next.1 refl)) running.stop);
    counts = is.still.counts;
  }

-- ---- the step

module _ (imaged : Imaged) (old new : Running) where
  abbrev Q : Program
  Q = program_of imaged

  abbrev base : Running → List HostAnswer → State
  base r answers = record bare { account = account_of r.counter; answers = answers }

  done_prepared : (result : Prepared) → IsRunning imaged old → PreparesNext imaged old new result → (answers : List HostAnswer) → (f : Frame Declared) (below : List (Frame Declared)) (i : Instruction)
      → frames_seen Q old.parts.frames ≡ f ∷ below → instruction_at Q f ≡ Some i
      → stepping imaged (terms_of old) (state_of imaged answers old) ≡ done Q imaged.prefix (terms_of old) f below i (prepared_reported result (with_parts imaged new.parts (base old answers)))
  unfolding step
  done_prepared result running is answers f below i frames at =
      let terms : Terms = terms_of old in
      let s : State = state_of imaged answers old in
      let next : next_of imaged (frames_seen Q old.parts.frames) ≡ Some i = ap (next_of imaged) frames ∙ at in
      ap (step_of Q imaged.prefix terms s) frames
      ∙ (ap (act Q imaged.prefix terms s f below) at
      ∙ ap (done Q imaged.prefix terms f below i) (is.effect i terms (base old answers) next refl))

  -- the top frame and its instruction
  record HasNext : Type 0 where
    f : Frame Declared
    below : List (Frame Declared)
    i : Instruction
    frames : frames_seen Q old.parts.frames ≡ f ∷ below
    at : instruction_at Q f ≡ Some i

  has_next : IsRunning imaged old → HasNext
  has_next running = by old.parts.frames refl running.standing where
    by : (fs : List StackFrame) → old.parts.frames ≡ fs → AreStanding Q (frames_seen Q fs) → HasNext
    by [] e standing = absurd standing
    by (f ∷ below) e standing =
        let has = top_stands imaged (f ∷ below) standing in
        record { f = _; below = _; i = has.instruction; frames = ap (frames_seen Q) e; at = has.at }

  same_state : (result : Prepared) → PreparesNext imaged old new result → (answers : List HostAnswer) → with_parts imaged new.parts (base old answers) ≡ state_of imaged answers new
  same_state result is answers = ap (λ (c : Option Counter). with_parts imaged new.parts (record bare { account = account_of c; answers = answers })) (sym is.counter)

  same_terms : (result : Prepared) → PreparesNext imaged old new result → terms_of old ≡ terms_of new
  same_terms result is = λ k. record { limit = Some (sym is.limit k); counting = counting_of (sym is.counter k) }

  -- so a step begins
  begun : (result : Prepared) → IsRunning imaged old → PreparesNext imaged old new result → (answers : List HostAnswer)
      → (n : HasNext) × (stepping imaged (terms_of old) (state_of imaged answers old) ≡ done Q imaged.prefix (terms_of old) n.f n.below n.i (prepared_reported result (state_of imaged answers new)))
  begun result running is answers =
      let n = has_next running in (
        n,
        done_prepared result running is answers n.f n.below n.i n.frames n.at
            ∙ ap (λ (s : State). done Q imaged.prefix (terms_of old) n.f n.below n.i (prepared_reported result s)) (same_state result is answers),
      )

  turns_so : (result : Prepared) (settled : Settled) → PreparesNext imaged old new result
      → ((rest : List HostAnswer) → reported_of (stepping imaged (terms_of old) (state_of imaged rest old)) ≡ settled_reported settled (state_of imaged rest new))
      → TurnsBy imaged (stepping imaged) old new [] settled
  turns_so result settled is says = record { says = says; limit = is.limit; counting = ap counting_of is.counter; still = is.still; stop = inl is.stop }

  pub waits_turns : (result : Prepared) → IsRunning imaged old → PreparesNext imaged old new result → result ≡ prepares.Waits → TurnsBy imaged (stepping imaged) old new [] settles.Went
  waits_turns result running is e = by (subst (PreparesNext imaged old new) e is) where
    by : PreparesNext imaged old new prepares.Waits → TurnsBy imaged (stepping imaged) old new [] settles.Went
    by is = turns_so prepares.Waits settles.Went is (λ rest. ap reported_of (begun prepares.Waits running is rest).1)

  pub deep_turns : (result : Prepared) → IsRunning imaged old → PreparesNext imaged old new result → result ≡ prepares.TooDeep
      → TurnsBy imaged (stepping imaged) old new [] (settles.Ended outcomes.TooDeep)
  deep_turns result running is e = by (subst (PreparesNext imaged old new) e is) where
    by : PreparesNext imaged old new prepares.TooDeep → TurnsBy imaged (stepping imaged) old new [] (settles.Ended outcomes.TooDeep)
    by is = turns_so prepares.TooDeep (settles.Ended outcomes.TooDeep) is (λ rest. ap reported_of (begun prepares.TooDeep running is rest).1)

  pub full_turns : (result : Prepared) (used size : ℕ) → IsRunning imaged old → PreparesNext imaged old new result → result ≡ prepares.HeapFull used size
      → TurnsBy imaged (stepping imaged) old new [] (settles.Ended (outcomes.HeapFull used size))
  full_turns result used size running is e = by (subst (PreparesNext imaged old new) e is) where
    by : PreparesNext imaged old new (prepares.HeapFull used size) → TurnsBy imaged (stepping imaged) old new [] (settles.Ended (outcomes.HeapFull used size))
    by is = turns_so (prepares.HeapFull used size) (settles.Ended (outcomes.HeapFull used size)) is (λ rest. ap reported_of (begun (prepares.HeapFull used size) running is rest).1)

  ready_step : IsRunning imaged old → PreparesNext imaged old new prepares.Ready → (answers : List HostAnswer)
      → stepping imaged (terms_of old) (state_of imaged answers old) ≡ doing_next imaged (terms_of new) (state_of imaged answers new)
  ready_step running is answers =
      let b = begun prepares.Ready running is answers in
      let n = b.0 in
      let t : State = state_of imaged answers new in
      let frames : t.frames ≡ n.f ∷ n.below = same_frames imaged old new running is ∙ n.frames in
      let next : next_of imaged t.frames ≡ Some n.i = ap (next_of imaged) frames ∙ n.at in
      b.1
      ∙ (sym (ap (doing_some imaged (terms_of old) t) next ∙ ap (doing_on imaged n.i (terms_of old) t) frames)
      ∙ ap (λ (x : Terms). doing_next imaged x t) (same_terms prepares.Ready is))

-- where it is ready, the step is what the instruction does
pub ready_turns : (imaged : Imaged) (old mid new : Running) (gave : List HostAnswer) (settled : Settled) → IsRunning imaged old → PreparesNext imaged old mid prepares.Ready
    → TurnsBy imaged (doing_next imaged) mid new gave settled → TurnsBy imaged (stepping imaged) old new gave settled
ready_turns imaged old mid new gave settled running is turns = record {
  says = λ rest. ap reported_of (ready_step imaged old mid running is (gave ++ rest)) ∙ turns.says rest;
  limit = turns.limit ∙ is.limit;
  counting = turns.counting ∙ ap counting_of is.counter;
  still = turns.still;
  stop = subst (λ (k : ℕ). KeepsStop imaged new.parts.store.heap k new.stop) is.stop turns.stop;
}

pub ready_then : (imaged : Imaged) (old mid new : Running) (gave : List HostAnswer) (prepared : Prepared) (result : Result Settled AllocError) → IsRunning imaged old → PreparesNext imaged old mid prepared
    → prepared ≡ prepares.Ready → IfOk result (TurnsBy imaged (doing_next imaged) mid new gave) → IfOk result (TurnsBy imaged (stepping imaged) old new gave)
ready_then imaged old mid new gave prepared (Err e) running is ready turns = tt
ready_then imaged old mid new gave prepared (Ok settled) running is ready turns =
    ready_turns imaged old mid new gave settled running (subst (PreparesNext imaged old mid) ready is) turns

-- ---- the next instruction is that of the top frame

pub next_turns : (imaged : Imaged) (old new : Running) (gave : List HostAnswer) (method number : ℕ) (i : Instruction) (result : Result Settled AllocError) → IsTop imaged old.parts.frames method number
    → instruction_of_number imaged method number ≡ Some i → IfOk result (TurnsBy imaged (doing imaged i) old new gave) → IfOk result (TurnsBy imaged (doing_next imaged) old new gave)
next_turns imaged old new gave method number i (Err e) top at turns = tt
next_turns imaged old new gave method number i (Ok settled) top at turns = record {
  says = λ rest. ap (λ (o : Option Instruction). reported_of (doing_some imaged (terms_of old) (state_of imaged (gave ++ rest) old) o)) (next_is imaged old.parts.frames method number top ∙ at) ∙ turns.says rest;
  limit = turns.limit;
  counting = turns.counting;
  still = turns.still;
  stop = turns.stop;
}
