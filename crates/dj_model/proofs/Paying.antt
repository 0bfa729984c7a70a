-- What a turn and a step leave paid.
use Rattle.std.proofs.Common.{◌≡◌, ℕ, ◌+◌, Bool, true, false, List, [], ◌∷◌, ◌++◌, length, reverse, Option, Some, None, nat_lt, nat_le, refl, sym, ap, subst, ◌∙◌, if◌then◌else◌, inl, inr, IsTrue, IsFalse}
use Rattle.std.specs.Prelude.{⊤}
use Rattle.dj_names.specs.declared.descriptor.Ty.{Ty}
use Rattle.dj_names.specs.declared.run.Value.{Value}
use Rattle.dj_names.specs.declared.run.Thresholds.{Thresholds}
use Rattle.dj_names.specs.trusted.Heaps.{Object, object_size, with_new, next_number}
use Rattle.dj_names.specs.trusted.Types.{Name}
use Rattle.dj_model.specs.trusted.Types.{Prefix, Declared}
use Rattle.dj_model.specs.trusted.Instructions.{Instruction}
use Rattle.dj_model.specs.trusted.Program.{Program, code_of, is_initialiser, initialiser_of, has_initialiser}
use Rattle.dj_model.specs.trusted.Linking.{chain}
use Rattle.dj_model.specs.trusted.State.{Terms, Frame, State, instruction_at, Next, To, Raise, Back, Flow, Goes, Catch, Stop, Call, End, Effect}
use Rattle.dj_model.specs.trusted.Arrays.{passes_limit}
use Rattle.dj_model.specs.trusted.Effects.{effect, used_class}
use Rattle.dj_model.specs.trusted.Charging.{Charged, Fine, Over}
use Rattle.dj_model.specs.Charging.{charge_all}
use Rattle.dj_model.specs.trusted.Initialisation.{most_frames, Initialised, Ready, Waits, Fails, then_ready, constants_of, mark_all, not_initialised, initialiser_frames, with_frames, initialise, new_frame}
use Rattle.dj_model.specs.trusted.Step.{StepAnswer, handler_of, at_handler, unwound, throw_new, new_exception, new_stop, stop_from, throw_stop_or, returned, settle, part_of, with_part, frame_with, settled, prepared, done, act, step_of, step}
use Rattle.dj_model.specs.Runs.{top_is_paid, amounts, paid_run, answer_run, metered_terms, turn}
use Rattle.dj_model.specs.Laws.{AnswerClears, RunPays}
use Rattle.dj_model.proofs.MappedNames.{either}
use Rattle.dj_model.proofs.Flows.{either_way}
use Rattle.dj_model.proofs.Frames.{KeepsMore, all_constants_keep}

module _ (program : Program) (prefix : Prefix) (terms : Terms) (f : Frame Declared) (below : List (Frame Declared)) where
  abbrev Clears : StepAnswer → Type 0
  Clears a = AnswerClears f below a

  unwound_clears : (t : State) (class : Ty) (exception : ℕ) (frames : List (Frame Declared)) → Clears (unwound program prefix t class exception frames)
  unfolding unwound
  unwound_clears t class exception [] = tt
  unwound_clears t class exception (g ∷ more) = by (handler_of program prefix class g.number (code_of program g.method)) (unwound_clears t class exception more) where
    by : (handler : Option ℕ) → Clears (unwound program prefix t class exception more) → Clears (at_handler prefix t class exception g more handler (unwound program prefix t class exception more))
    by (Some handler) o = inl refl
    by None o = either_way Clears (is_initialiser g.method) _ _ tt o

  throw_new_clears : (t : State) (object : Object Ty) → Clears (throw_new program prefix terms t object)
  throw_new_clears t object = either_way Clears (passes_limit terms.limit (t.heap.used + object_size object)) _ _ tt
      (unwound_clears (record t { heap = with_new t.heap object }) _ (next_number t.heap) t.frames)

  stop_clears : (t : State) (r : Option ℕ) → Clears (throw_stop_or program prefix terms t r)
  stop_clears t None = throw_new_clears t new_stop
  stop_clears t (Some r) = unwound_clears t _ r t.frames

  returned_clears : (t : State) (g : Frame Declared) (result : Option Value) → g.method ≡ f.method → Clears (returned t g result below)
  returned_clears t g result same = by below refl where
    by : (rest : List (Frame Declared)) → rest ≡ below → Clears (returned t g result rest)
    by [] e = tt
    by (caller ∷ more) e = elim (either (is_initialiser g.method)) [
      | inl init ↦ rw init (inr (ap is_initialiser (sym same) ∙ init, e))
      | inr plain ↦ rw plain (inl refl)
    ]

  settle_clears : (t : State) (g : Frame Declared) (flow : Flow) → g.method ≡ f.method → Clears (settle program prefix terms t g below flow)
  unfolding settle
  settle_clears t g (Goes Next) same = inl refl
  settle_clears t g (Goes (To number)) same = inl refl
  settle_clears t g (Goes (Raise raised)) same = throw_new_clears (record t { frames = g ∷ below }) (new_exception prefix raised)
  settle_clears t g (Goes (Back result)) same = returned_clears t g result same
  settle_clears t g (Catch exception) same = unwound_clears (record t { frames = g ∷ below }) _ exception (g ∷ below)
  settle_clears t g Stop same = stop_clears (record t { frames = g ∷ below }) (stop_from prefix 1 t.heap.objects)
  settle_clears t g (Call m arguments) same = either_way Clears (nat_le most_frames (length (g ∷ below))) _ _ tt (inl refl)
  settle_clears t g (End outcome) same = tt

  settled_clears : (t : State) (e : Option Effect) → Clears (settled program prefix terms t f below e)
  settled_clears t None = tt
  settled_clears t (Some e) = settle_clears (with_part t e.part) (frame_with f e.part) e.flow refl

  -- new frames aren't paid
  abbrev Unpaid : List (Frame Declared) → Type 0
  Unpaid [] = ⊤
  Unpaid (g ∷ frames) = g.paid ≡ false

  initialisers_unpaid : (classes : List Name) → Unpaid (initialiser_frames program classes)
  initialisers_unpaid [] = tt
  initialisers_unpaid (class ∷ classes) = by (has_initialiser program class) (initialisers_unpaid classes) where
    by : (b : Bool) → Unpaid (initialiser_frames program classes)
        → Unpaid ((if b then new_frame program (initialiser_of class) [] ∷ [] else []) ++ initialiser_frames program classes)
    by true rest = refl
    by false rest = rest

  abbrev InitClears : Initialised → Type 0
  InitClears (Ready t) = ⊤
  InitClears (Waits t) = IsFalse (top_is_paid t.frames)
  InitClears (Fails outcome t) = ⊤

  with_frames_clear : (t : State) (frames : List (Frame Declared)) → Unpaid frames → InitClears (with_frames t frames)
  with_frames_clear t [] k = tt
  with_frames_clear t (g ∷ frames) k = either_way InitClears (nat_lt most_frames (length (g ∷ frames) + length t.frames)) _ _ tt k

  initialise_clears : (class : Name) (t : State) → InitClears (initialise program prefix terms class t)
  unfolding initialise KeepsMore
  initialise_clears class t = go (constants_of program prefix terms classes marked) (all_constants_keep program prefix terms classes marked) where
    classes : List Name
    classes = reverse (not_initialised program t.initialised (chain program class))

    marked : State
    marked = record t { initialised = mark_all program classes t.initialised }

    go : (i : Initialised) → KeepsMore marked i → InitClears (then_ready (λ next. with_frames next (initialiser_frames program classes)) i)
    go (Ready next) e = with_frames_clear next (initialiser_frames program classes) (initialisers_unpaid classes)
    go (Waits next) e = absurd e
    go (Fails outcome next) e = tt

  prepared_clears : (used : Option Name) (t : State) → InitClears (prepared program prefix terms used t)
  prepared_clears None t = tt
  prepared_clears (Some class) t = initialise_clears class t

  done_clears : (i : Instruction) (r : Initialised) → InitClears r → Clears (done program prefix terms f below i r)
  done_clears i (Ready t) k = settled_clears t (effect program prefix terms f.method.class i (part_of f t))
  done_clears i (Waits t) k = inl k
  done_clears i (Fails outcome t) k = tt

  act_clears : (t : State) (i : Option Instruction) → Clears (act program prefix terms t f below i)
  act_clears t None = tt
  act_clears t (Some i) = done_clears i (prepared program prefix terms (used_class program prefix i) t) (prepared_clears (used_class program prefix i) t)

pub step_clears : (program : Program) (prefix : Prefix) (terms : Terms) (s : State) (f : Frame Declared) (below : List (Frame Declared)) → s.frames ≡ f ∷ below
    → AnswerClears f below (step program prefix terms s)
unfolding step
step_clears program prefix terms s f below e =
    subst (λ (fs : List (Frame Declared)). AnswerClears f below (step_of program prefix terms s fs)) (sym e) (act_clears program prefix terms f below s (instruction_at program f))

paid_pays : (s : State) (c : Charged) → RunPays s c (paid_run s c)
paid_pays s (Fine account) = (refl, refl)
paid_pays s (Over charge account) = (refl, refl)

pub unpaid_pays : (program : Program) (most : Thresholds) (s : State) → IsFalse (top_is_paid s.frames) → RunPays s (charge_all most (amounts program [] s) s.account) (turn program most s)
unfolding turn
unpaid_pays program most s e = rw e (paid_pays s (charge_all most (amounts program [] s) s.account))

pub paid_acts : (program : Program) (most : Thresholds) (s : State) → IsTrue (top_is_paid s.frames) → turn program most s ≡ answer_run (step program [] (metered_terms most) s)
unfolding turn
paid_acts program most s e = rw e refl
