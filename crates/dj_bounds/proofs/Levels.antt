-- After a step the heap has no less beside the literals than before.
use Rattle.std.proofs.Common.{◌≡◌, ℕ, ◌+◌, ◌≤◌, List, [], ◌∷◌, length, reverse, Option, Some, None, nat_le, nat_lt, refl, arith, if◌then◌else◌}
use Rattle.std.specs.Prelude.{⊤, IfSome}
use Rattle.dj_names.specs.declared.descriptor.Ty.{Ty}
use Rattle.dj_names.specs.declared.run.Value.{Value}
use Rattle.dj_names.specs.trusted.Heaps.{Object, object_size, with_new, next_number}
use Rattle.dj_names.specs.trusted.Types.{Name}
use Rattle.dj_model.specs.trusted.Types.{Prefix, Declared}
use Rattle.dj_model.specs.trusted.Instructions.{Instruction}
use Rattle.dj_model.specs.trusted.Program.{Program, Field, Constant, Int, Long, Text, Unfit, class_at, fields_of, is_static, is_initialiser, code_of}
use Rattle.dj_model.specs.trusted.Linking.{chain, static_place}
use Rattle.dj_model.specs.trusted.State.{Terms, Frame, State, instruction_at, Next, To, Raise, Back, Flow, Goes, Catch, Stop, Call, End, Effect}
use Rattle.dj_model.specs.trusted.Arrays.{passes_limit}
use Rattle.dj_model.specs.trusted.Members.{Kept, with_literal}
use Rattle.dj_model.specs.trusted.Effects.{used_class}
use Rattle.dj_model.specs.trusted.Initialisation.{most_frames, Initialised, Ready, Waits, Fails, then_ready, with_text, with_constant, with_constants, constants_of, mark_all, not_initialised, initialiser_frames, with_frames, initialise}
use Rattle.dj_model.specs.trusted.Step.{StepAnswer, Went, Ended, IllFormed, handler_of, at_handler, unwound, throw_new, new_exception, new_stop, stop_from, throw_stop_or, returned, settle, with_part, frame_with, part_of, settled, prepared, done, act, step_of, step}
use Rattle.dj_model.proofs.Flows.{either_way}
use Rattle.dj_bounds.specs.Bytes.{literal_bytes}
use Rattle.dj_bounds.proofs.Taking.{text_of, Takes, IsKept, literal_taken, effect_takes}

-- such is the answer's state
abbrev pub AnswerHas : (State → Type 0) → StepAnswer → Type 0
AnswerHas P (Went t) = P t
AnswerHas P (Ended outcome t) = P t
AnswerHas P IllFormed = ⊤

-- ---- initialisations

-- only literals were made, and nothing was charged
abbrev pub IsLevel : State → State → Type 0
IsLevel s t = (t.heap.used + literal_bytes s.literals ≡ s.heap.used + literal_bytes t.literals) × (t.account ≡ s.account)

module _ (program : Program) (prefix : Prefix) (terms : Terms) (s : State) where
  abbrev pub InitLevel : Initialised → Type 0
  InitLevel (Ready t) = IsLevel s t
  InitLevel (Waits t) = IsLevel s t
  InitLevel (Fails outcome t) = IsLevel s t

  then_level : (next : State → Initialised) → ((t : State) → IsLevel s t → InitLevel (next t)) → (i : Initialised) → InitLevel i → InitLevel (then_ready next i)
  then_level next each (Ready t) k = each t k
  then_level next each (Waits t) k = k
  then_level next each (Fails outcome t) k = k

  constant_level : (t : State) (place : ℕ) (constant : Option Constant) → IsLevel s t → InitLevel (with_constant prefix terms t place constant)
  constant_level t place None k = k
  constant_level t place (Some (Int z)) k = k
  constant_level t place (Some (Long z)) k = k
  constant_level t place (Some (Text units)) k = go (with_literal terms.limit prefix t.heap t.literals units) (literal_taken program prefix terms terms.limit t.heap t.literals units) where
    go : (o : Option Kept) → IfSome o (IsKept program prefix terms units t.heap t.literals) → InitLevel (with_text t place units o)
    go None e = k
    go (Some kept) e = (omega (arith, e.0, k.0), k.1)
  constant_level t place (Some Unfit) k = k

  constants_level : (class : Name) (fields : List Field) (t : State) → IsLevel s t → InitLevel (with_constants program prefix terms class fields t)
  unfolding with_constants
  constants_level class [] t k = k
  constants_level class (f ∷ fields) t k = then_level (with_constants program prefix terms class fields) (constants_level class fields)
      (if is_static f.flags then with_constant prefix terms t (static_place program class f.name f.desc) f.constant else Ready t)
      (either_way InitLevel (is_static f.flags) _ _ (constant_level t (static_place program class f.name f.desc) f.constant k) k)

  all_constants_level : (classes : List Name) (t : State) → IsLevel s t → InitLevel (constants_of program prefix terms classes t)
  unfolding constants_of
  all_constants_level [] t k = k
  all_constants_level (class ∷ classes) t k = then_level (constants_of program prefix terms classes) (all_constants_level classes)
      (with_constants program prefix terms class (fields_of (class_at program class)) t) (constants_level class (fields_of (class_at program class)) t k)

  frames_level : (frames : List (Frame Declared)) (t : State) → IsLevel s t → InitLevel (with_frames t frames)
  frames_level [] t k = k
  frames_level (f ∷ frames) t k = either_way InitLevel (nat_lt most_frames (length (f ∷ frames) + length t.frames)) _ _ k k

  pub initialise_level : (class : Name) → InitLevel (initialise program prefix terms class s)
  unfolding initialise
  initialise_level class = then_level (λ next. with_frames next (initialiser_frames program classes)) (frames_level (initialiser_frames program classes))
      (constants_of program prefix terms classes (record s { initialised = mark_all program classes s.initialised })) (all_constants_level classes _ (refl, refl)) where
        classes : List Name
        classes = reverse (not_initialised program s.initialised (chain program class))

  pub prepared_level : (used : Option Name) → InitLevel (prepared program prefix terms used s)
  prepared_level None = (refl, refl)
  prepared_level (Some class) = initialise_level class

-- ---- unwinding changes only the frames

pub unwound_has : (program : Program) (prefix : Prefix) (P : State → Type 0) (t : State) → ((frames : List (Frame Declared)) → P (record t { frames = frames }))
    → (class : Ty) (exception : ℕ) (frames : List (Frame Declared)) → AnswerHas P (unwound program prefix t class exception frames)
unfolding unwound
unwound_has program prefix P t every class exception [] = every t.frames
unwound_has program prefix P t every class exception (f ∷ below) = go (handler_of program prefix class f.number (code_of program f.method)) (unwound_has program prefix P t every class exception below) where
  go : (handler : Option ℕ) → AnswerHas P (unwound program prefix t class exception below) → AnswerHas P (at_handler prefix t class exception f below handler (unwound program prefix t class exception below))
  go (Some handler) more = every _
  go None more = either_way (AnswerHas P) (is_initialiser f.method) _ _ (every t.frames) more

-- ---- a step

-- no less beside the literals
abbrev pub IsNoLess : State → State → Type 0
IsNoLess s t = literal_bytes t.literals + s.heap.used ≤ literal_bytes s.literals + t.heap.used

module _ (program : Program) (prefix : Prefix) (terms : Terms) (s : State) where
  abbrev NoLess : StepAnswer → Type 0
  NoLess a = AnswerHas (IsNoLess s) a

  thrown_no_less : (t : State) (object : Object Ty) → IsNoLess s t → NoLess (throw_new program prefix terms t object)
  thrown_no_less t object k = either_way NoLess (passes_limit terms.limit (t.heap.used + object_size object)) _ _ k
      (unwound_has program prefix (IsNoLess s) (record t { heap = with_new t.heap object }) (λ frames. omega (arith, k)) _ (next_number t.heap) t.frames)

  stop_no_less : (t : State) (r : Option ℕ) → IsNoLess s t → NoLess (throw_stop_or program prefix terms t r)
  stop_no_less t None k = thrown_no_less t new_stop k
  stop_no_less t (Some r) k = unwound_has program prefix (IsNoLess s) t (λ frames. k) _ r t.frames

  returned_no_less : (t : State) (f : Frame Declared) (result : Option Value) (below : List (Frame Declared)) → IsNoLess s t → NoLess (returned t f result below)
  returned_no_less t f result [] k = k
  returned_no_less t f result (caller ∷ below) k = k

  settle_no_less : (t : State) (f : Frame Declared) (below : List (Frame Declared)) (flow : Flow) → IsNoLess s t → NoLess (settle program prefix terms t f below flow)
  unfolding settle
  settle_no_less t f below (Goes Next) k = k
  settle_no_less t f below (Goes (To number)) k = k
  settle_no_less t f below (Goes (Raise raised)) k = thrown_no_less (record t { frames = f ∷ below }) (new_exception prefix raised) k
  settle_no_less t f below (Goes (Back result)) k = returned_no_less t f result below k
  settle_no_less t f below (Catch exception) k = unwound_has program prefix (IsNoLess s) (record t { frames = f ∷ below }) (λ frames. k) _ exception (f ∷ below)
  settle_no_less t f below Stop k = stop_no_less (record t { frames = f ∷ below }) (stop_from prefix 1 t.heap.objects) k
  settle_no_less t f below (Call m arguments) k = either_way NoLess (nat_le most_frames (length (f ∷ below))) _ _ k k
  settle_no_less t f below (End outcome) k = k

  settled_no_less : (text : Option (List ℕ)) (paid : ℕ) (t : State) (f : Frame Declared) (below : List (Frame Declared)) (o : Option Effect) → IsLevel s t → IfSome o (Takes terms.counting text paid (part_of f t))
      → NoLess (settled program prefix terms t f below o)
  settled_no_less text paid t f below None k takes = tt
  settled_no_less text paid t f below (Some e) k takes = settle_no_less (with_part t e.part) (frame_with f e.part) below e.flow (omega (arith, k.0, takes.bytes))

  done_no_less : (f : Frame Declared) (below : List (Frame Declared)) (i : Instruction) (r : Initialised) → InitLevel program prefix terms s r → NoLess (done program prefix terms f below i r)
  done_no_less f below i (Ready t) k = settled_no_less (text_of i) _ t f below _ k (effect_takes program prefix terms f.method.class i (part_of f t))
  done_no_less f below i (Waits t) k = omega (arith, k.0)
  done_no_less f below i (Fails outcome t) k = omega (arith, k.0)

  pub step_no_less : NoLess (step program prefix terms s)
  unfolding step
  step_no_less = by s.frames where
    with_instruction : (f : Frame Declared) (below : List (Frame Declared)) (o : Option Instruction) → NoLess (act program prefix terms s f below o)
    with_instruction f below None = tt
    with_instruction f below (Some i) = done_no_less f below i (prepared program prefix terms (used_class program prefix i) s) (prepared_level program prefix terms s (used_class program prefix i))

    by : (frames : List (Frame Declared)) → NoLess (step_of program prefix terms s frames)
    by [] = tt
    by (f ∷ below) = with_instruction f below (instruction_at program f)
