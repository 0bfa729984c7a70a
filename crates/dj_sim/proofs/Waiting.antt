-- Each frame that waits for one that isn't an initialiser's stays paid.
use Rattle.std.proofs.Common.{◌≡◌, ℕ, ◌+◌, Bool, true, false, List, [], ◌∷◌, ◌++◌, length, reverse, Option, Some, None, nat_le, nat_lt, refl, sym, subst, ◌∙◌, inl, inr, if◌then◌else◌}
use Rattle.std.specs.Prelude.{⊤}
use Rattle.dj_names.specs.declared.descriptor.Ty.{Ty}
use Rattle.dj_names.specs.declared.run.Value.{Value}
use Rattle.dj_names.specs.declared.run.Thresholds.{Thresholds}
use Rattle.dj_names.specs.trusted.Heaps.{Object, object_size, with_new, next_number}
use Rattle.dj_names.specs.trusted.Types.{Name}
use Rattle.dj_edge.specs.declared.host.HostAnswer.{HostAnswer}
use Rattle.dj_model.specs.trusted.Types.{Prefix, Declared}
use Rattle.dj_model.specs.trusted.Instructions.{Instruction}
use Rattle.dj_model.specs.trusted.Program.{Program, code_of, is_initialiser, initialiser_of, has_initialiser}
use Rattle.dj_model.specs.trusted.Linking.{chain}
use Rattle.dj_model.specs.trusted.State.{Terms, Frame, State, instruction_at, Next, To, Raise, Back, Flow, Goes, Catch, Stop, Call, End, Effect}
use Rattle.dj_model.specs.trusted.Arrays.{passes_limit}
use Rattle.dj_model.specs.trusted.Charging.{Charged, Fine, Over}
use Rattle.dj_model.specs.Charging.{charge_all}
use Rattle.dj_model.specs.trusted.Effects.{effect, used_class}
use Rattle.dj_model.specs.trusted.Initialisation.{most_frames, new_frame, Initialised, Ready, Waits, Fails, then_ready, constants_of, mark_all, not_initialised, initialiser_frames, with_frames, initialise}
use Rattle.dj_model.specs.trusted.Step.{StepAnswer, Went, Ended, IllFormed, handler_of, at_handler, unwound, throw_new, new_exception, new_stop, stop_from, throw_stop_or, returned, settle, with_part, frame_with, part_of, settled, prepared, done, act, step_of, step}
use Rattle.dj_model.specs.trusted.Runs.{input_array, input_heap, start_state, begun, begin}
use Rattle.dj_model.specs.Runs.{amounts, with_paid, top_is_paid, paid_run, answer_run, metered_terms, turn}
use Rattle.dj_model.proofs.Flows.{either_way}
use Rattle.dj_model.proofs.Frames.{KeepsMore, all_constants_keep}
use Rattle.dj_sim.specs.Simulation.{is_top_paid, AreWaitingPaid, AreActing}
use Rattle.dj_sim.specs.Waiting.{AnswerWaits, RunWaits}
use Rattle.dj_sim.proofs.Places.{either}

module _ (program : Program) (prefix : Prefix) (terms : Terms) where
  unwound_waits : (t : State) (class : Ty) (exception : ℕ) (frames : List (Frame Declared)) → AreWaitingPaid frames → AnswerWaits (unwound program prefix t class exception frames)
  unfolding unwound
  unwound_waits t class exception [] k = tt
  unwound_waits t class exception (f ∷ below) k = by (handler_of program prefix class f.number (code_of program f.method)) (unwound_waits t class exception below k.1) where
    by : (handler : Option ℕ) → AnswerWaits (unwound program prefix t class exception below)
        → AnswerWaits (at_handler prefix t class exception f below handler (unwound program prefix t class exception below))
    by (Some handler) more = k
    by None more = either_way AnswerWaits (is_initialiser f.method) _ _ tt more

  thrown_waits : (t : State) (object : Object Ty) → AreWaitingPaid t.frames → AnswerWaits (throw_new program prefix terms t object)
  thrown_waits t object k = either_way AnswerWaits (passes_limit terms.limit (t.heap.used + object_size object)) _ _ tt
      (unwound_waits (record t { heap = with_new t.heap object }) _ (next_number t.heap) t.frames k)

  stop_waits : (t : State) (r : Option ℕ) → AreWaitingPaid t.frames → AnswerWaits (throw_stop_or program prefix terms t r)
  stop_waits t None k = thrown_waits t new_stop k
  stop_waits t (Some r) k = unwound_waits t _ r t.frames k

  returned_waits : (t : State) (f : Frame Declared) (result : Option Value) (below : List (Frame Declared)) → AreWaitingPaid (f ∷ below) → AnswerWaits (returned t f result below)
  returned_waits t f result [] k = tt
  returned_waits t f result (caller ∷ below) k = elim (either (is_initialiser f.method)) [ inl i ↦ rw i k.1 | inr i ↦ rw i k.1 ]

  settle_waits : (t : State) (f : Frame Declared) (below : List (Frame Declared)) (flow : Flow) → AreActing (f ∷ below) → AnswerWaits (settle program prefix terms t f below flow)
  unfolding settle
  settle_waits t f below (Goes Next) k = k.1
  settle_waits t f below (Goes (To number)) k = k.1
  settle_waits t f below (Goes (Raise raised)) k = thrown_waits (record t { frames = f ∷ below }) (new_exception prefix raised) k.1
  settle_waits t f below (Goes (Back result)) k = returned_waits t f result below k.1
  settle_waits t f below (Catch exception) k = unwound_waits (record t { frames = f ∷ below }) _ exception (f ∷ below) k.1
  settle_waits t f below Stop k = stop_waits (record t { frames = f ∷ below }) (stop_from prefix 1 t.heap.objects) k.1
  settle_waits t f below (Call m arguments) k = either_way AnswerWaits (nat_le most_frames (length (f ∷ below))) _ _ tt (λ plain. k.0, k.1)
  settle_waits t f below (End outcome) k = tt

  settled_waits : (t : State) (f : Frame Declared) (below : List (Frame Declared)) (e : Option Effect) → AreActing (f ∷ below) → AnswerWaits (settled program prefix terms t f below e)
  settled_waits t f below None k = tt
  settled_waits t f below (Some e) k = settle_waits (with_part t e.part) (frame_with f e.part) below e.flow k

  -- ---- initialisers are put on top

  over_waiting : (classes : List Name) (frames : List (Frame Declared)) → AreWaitingPaid frames → AreWaitingPaid (initialiser_frames program classes ++ frames)
  over_waiting [] frames k = k
  over_waiting (class ∷ classes) frames k = by (has_initialiser program class) (over_waiting classes frames k) where
    by : (b : Bool) → AreWaitingPaid (initialiser_frames program classes ++ frames)
        → AreWaitingPaid (((if b then new_frame program (initialiser_of class) [] ∷ [] else []) ++ initialiser_frames program classes) ++ frames)
    by true rest = (λ plain. absurd (let no : true ≡ false = plain in cc), rest)
    by false rest = rest

  abbrev InitWaits : Initialised → Type 0
  InitWaits (Ready t) = AreWaitingPaid t.frames
  InitWaits (Waits t) = AreWaitingPaid t.frames
  InitWaits (Fails outcome t) = ⊤

  with_frames_wait : (t : State) (frames : List (Frame Declared)) → AreWaitingPaid (frames ++ t.frames) → InitWaits (with_frames t frames)
  with_frames_wait t [] k = k
  with_frames_wait t (f ∷ frames) k = either_way InitWaits (nat_lt most_frames (length (f ∷ frames) + length t.frames)) _ _ tt k

  initialise_waits : (class : Name) (t : State) → AreWaitingPaid t.frames → InitWaits (initialise program prefix terms class t)
  unfolding initialise KeepsMore
  initialise_waits class t k = go (constants_of program prefix terms classes marked) (all_constants_keep program prefix terms classes marked) where
    classes : List Name
    classes = reverse (not_initialised program t.initialised (chain program class))

    marked : State
    marked = record t { initialised = mark_all program classes t.initialised }

    go : (i : Initialised) → KeepsMore marked i → InitWaits (then_ready (λ next. with_frames next (initialiser_frames program classes)) i)
    go (Ready next) e = with_frames_wait next (initialiser_frames program classes)
        (subst (λ (frames : List (Frame Declared)). AreWaitingPaid (initialiser_frames program classes ++ frames)) (sym e.0) (over_waiting classes t.frames k))
    go (Waits next) e = absurd e
    go (Fails outcome next) e = tt

  prepared_waits : (used : Option Name) (t : State) → AreWaitingPaid t.frames → InitWaits (prepared program prefix terms used t)
  prepared_waits None t k = k
  prepared_waits (Some class) t k = initialise_waits class t k

  -- ---- a step

  done_waits : (f : Frame Declared) (below : List (Frame Declared)) (i : Instruction) (r : Initialised) → AreActing (f ∷ below) → InitWaits r → AnswerWaits (done program prefix terms f below i r)
  done_waits f below i (Ready t) k w = settled_waits t f below (effect program prefix terms f.method.class i (part_of f t)) k
  done_waits f below i (Waits t) k w = w
  done_waits f below i (Fails outcome t) k w = tt

  pub step_waits : (t : State) → AreActing t.frames → AnswerWaits (step program prefix terms t)
  unfolding step
  step_waits t k = by t.frames k where
    with_instruction : (f : Frame Declared) (below : List (Frame Declared)) (o : Option Instruction) → AreActing (f ∷ below) → AnswerWaits (act program prefix terms t f below o)
    with_instruction f below None k2 = tt
    with_instruction f below (Some i) k2 = done_waits f below i (prepared program prefix terms (used_class program prefix i) t) k2 (prepared_waits (used_class program prefix i) t k.1)

    by : (frames : List (Frame Declared)) → AreActing frames → AnswerWaits (step_of program prefix terms t frames)
    by [] k2 = tt
    by (f ∷ below) k2 = with_instruction f below (instruction_at program f) k2

  -- ---- the start

  begun_waits : (i : Initialised) → InitWaits i → AnswerWaits (begun i)
  begun_waits (Ready t) k = k
  begun_waits (Waits t) k = k
  begun_waits (Fails outcome t) k = tt

  pub begin_waits : (entry : Declared) (input : List ℕ) (answers : List HostAnswer) → AnswerWaits (begin program prefix terms entry input answers)
  unfolding begin
  begin_waits entry input answers = either_way AnswerWaits (passes_limit terms.limit (object_size (input_array input))) _ _ tt
      (begun_waits (initialise program prefix terms entry.class (start_state program entry (input_heap input) answers))
      (initialise_waits entry.class (start_state program entry (input_heap input) answers) (λ plain. refl, tt)))

-- ---- a turn

answer_waits : (a : StepAnswer) → AnswerWaits a → RunWaits (answer_run a)
answer_waits (Went s) k = k
answer_waits (Ended outcome s) k = tt
answer_waits IllFormed k = tt

paid_waits : (s : State) (c : Charged) → AreWaitingPaid s.frames → RunWaits (paid_run s c)
paid_waits s (Over charge account) k = tt
paid_waits s (Fine account) k = by s.frames k where
  by : (frames : List (Frame Declared)) → AreWaitingPaid frames → AreWaitingPaid (with_paid frames)
  by [] k = tt
  by (f ∷ below) k = k

pub top_alike : (frames : List (Frame Declared)) → is_top_paid frames ≡ top_is_paid frames
top_alike [] = refl
top_alike (f ∷ below) = refl

pub turn_waits : (program : Program) (most : Thresholds) (s : State) → AreWaitingPaid s.frames → RunWaits (turn program most s)
unfolding turn
turn_waits program most s k = elim (either (top_is_paid s.frames)) [
  | inl e ↦ rw e (answer_waits (step program [] (metered_terms most) s) (step_waits program [] (metered_terms most) s (top_alike s.frames ∙ e, k)))
  | inr e ↦ rw e (paid_waits s (charge_all most (amounts program [] s) s.account) k)
]
