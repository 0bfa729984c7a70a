-- A run of which nobody counts the charges is never stopped by one.
use Rattle.std.proofs.Common.{◌≡◌, ℕ, zero, suc, ◌+◌, false, List, [], ◌∷◌, length, reverse, Option, Some, None, nat_eq, nat_lt, nat_le, refl, sym, ap, ◌∙◌, subst, if◌then◌else◌}
use Rattle.std.specs.Prelude.{⊤, IfSome}
use Rattle.dj_names.specs.declared.descriptor.Ty.{Ty}
use Rattle.dj_names.specs.declared.run.Value.{Value}
use Rattle.dj_names.specs.declared.run.Value.TheVariants as values
use Rattle.dj_names.specs.declared.run.Element.TheVariants as elements
use Rattle.dj_names.specs.declared.run.Charge.{Charge}
use Rattle.dj_names.specs.declared.run.Outcome.{Outcome}
use Rattle.dj_names.specs.declared.run.Outcome.TheVariants as outcomes
use Rattle.dj_names.specs.trusted.Heaps.{Object, Heap, object_size, with_new, next_number}
use Rattle.dj_names.specs.trusted.Types.{Name}
use Rattle.dj_edge.specs.declared.host.HostAnswer.{HostAnswer}
use Rattle.dj_model.specs.trusted.Types.{Prefix, Declared, is_stop}
use Rattle.dj_model.specs.trusted.Instructions.{Instruction}
use Rattle.dj_model.specs.trusted.Program.{Program, Field, Constant, Int, Long, Text, Unfit, class_at, fields_of, is_static, is_initialiser, code_of}
use Rattle.dj_model.specs.trusted.Linking.{chain, static_place}
use Rattle.dj_model.specs.trusted.State.{Account, Frame, State, Way, Next, To, Raise, Back, Flow, Goes, Catch, Stop, Call, End, Effect, instruction_at}
use Rattle.dj_model.specs.trusted.Arrays.{Found, Null, NoArray, IsArray, array_at, passes_limit}
use Rattle.dj_model.specs.trusted.Members.{Kept, with_literal}
use Rattle.dj_model.specs.trusted.Effects.{effect, used_class}
use Rattle.dj_model.specs.trusted.Initialisation.{most_frames, mark_all, not_initialised, Initialised, Ready, Waits, Fails, then_ready, with_text, with_constant, with_constants, constants_of, initialiser_frames, with_frames, initialise}
use Rattle.dj_model.specs.trusted.Step.{StepAnswer, Went, Ended, IllFormed, stopped_by, ends_with, handler_of, leaves_frame, at_handler, unwound, throw_new, new_exception, bytes_in, result_outcome, returned, settle_way, settle, with_part, frame_with, part_of, settled, prepared, done, act, step_of, step}
use Rattle.dj_model.specs.trusted.Runs.{input_array, input_heap, start_state, begun, begin, Ran, Going, Finished, NoStep, one_more, then_steps, steps, from_start, Report, report_of, plain_run}
use Rattle.dj_model.proofs.Flows.{either_way}
use Rattle.dj_model.proofs.Fits.{PlainOutcome, PlainFlow}
use Rattle.dj_sandbox.specs.Laws.{uncounted, NeverStopped}
use Rattle.dj_sandbox.specs.Runs.{is_stopped}
use Rattle.dj_sandbox.proofs.UnstoppedEffects.{IsUnchargedIfSome, effect_plain}

-- no charge passed its threshold
abbrev IsUnpassed : State → Type 0
IsUnpassed t = t.account.exceeded ≡ None

abbrev IsUnstopped : StepAnswer → Type 0
IsUnstopped (Went t) = IsUnpassed t
IsUnstopped (Ended outcome t) = PlainOutcome outcome
IsUnstopped IllFormed = ⊤

-- ---- what a run returns

bytes_plain : (found : Found Ty) → PlainOutcome (bytes_in found)
bytes_plain Null = tt
bytes_plain NoArray = tt
bytes_plain (IsArray class elements.Boolean contents) = tt
bytes_plain (IsArray class elements.Byte contents) = tt
bytes_plain (IsArray class elements.Char contents) = tt
bytes_plain (IsArray class elements.Short contents) = tt
bytes_plain (IsArray class elements.Int contents) = tt
bytes_plain (IsArray class elements.Long contents) = tt
bytes_plain (IsArray class elements.Ref contents) = tt

result_plain : (heap : Heap Ty) (result : Option Value) → PlainOutcome (result_outcome heap result)
result_plain heap None = tt
result_plain heap (Some (values.Int z)) = tt
result_plain heap (Some (values.Long z)) = tt
result_plain heap (Some (values.Ref r)) = either_way PlainOutcome (nat_eq r 0) _ _ tt (bytes_plain (array_at heap r))

-- ---- exceptions

module _ (program : Program) (prefix : Prefix) (limit : Option ℕ) where
  ends_plain : (t : State) (class : Ty) (outcome : Outcome) → PlainOutcome outcome → IsUnpassed t → IsUnstopped (ends_with prefix t class outcome)
  ends_plain t class outcome plain k = either_way PlainOutcome (is_stop prefix class) (stopped_by t.account.exceeded outcome) outcome
      (subst (λ (e : Option Charge). PlainOutcome (stopped_by e outcome)) (sym k) plain) plain

  leaves_plain : (t : State) (class : Ty) (exception : ℕ) (f : Frame Declared) (below : StepAnswer) → IsUnpassed t → IsUnstopped below
      → IsUnstopped (leaves_frame prefix t class exception f below)
  leaves_plain t class exception f below k o = either_way IsUnstopped (is_initialiser f.method) _ _ (ends_plain t class _ tt k) o

  handled_plain : (t : State) (class : Ty) (exception : ℕ) (f : Frame Declared) (below : List (Frame Declared)) (handler : Option ℕ) (otherwise : StepAnswer) → IsUnpassed t
      → IsUnstopped otherwise → IsUnstopped (at_handler prefix t class exception f below handler otherwise)
  handled_plain t class exception f below None otherwise k o = leaves_plain t class exception f otherwise k o
  handled_plain t class exception f below (Some handler) otherwise k o = k

  unwound_plain : (t : State) (class : Ty) (exception : ℕ) (frames : List (Frame Declared)) → IsUnpassed t → IsUnstopped (unwound program prefix t class exception frames)
  unfolding unwound
  unwound_plain t class exception [] k = ends_plain t class _ tt k
  unwound_plain t class exception (f ∷ below) k =
      handled_plain t class exception f below (handler_of program prefix class f.number (code_of program f.method)) _ k (unwound_plain t class exception below k)

  throw_new_plain : (t : State) (object : Object Ty) → IsUnpassed t → IsUnstopped (throw_new program prefix (uncounted limit) t object)
  throw_new_plain t object k = either_way IsUnstopped (passes_limit limit (t.heap.used + object_size object)) _ _ tt
      (unwound_plain (record t { heap = with_new t.heap object }) _ (next_number t.heap) t.frames k)

  -- ---- what follows an effect

  returned_plain : (t : State) (f : Frame Declared) (result : Option Value) (below : List (Frame Declared)) → IsUnpassed t → IsUnstopped (returned t f result below)
  returned_plain t f result [] k = result_plain t.heap result
  returned_plain t f result (caller ∷ below) k = k

  way_plain : (t : State) (f : Frame Declared) (below : List (Frame Declared)) (way : Way) → IsUnpassed t
      → IsUnstopped (settle_way program prefix (uncounted limit) t f below way)
  way_plain t f below Next k = k
  way_plain t f below (To number) k = k
  way_plain t f below (Raise raised) k = throw_new_plain (record t { frames = f ∷ below }) (new_exception prefix raised) k
  way_plain t f below (Back result) k = returned_plain t f result below k

  settle_plain : (t : State) (f : Frame Declared) (below : List (Frame Declared)) (flow : Flow) → PlainFlow flow → IsUnpassed t
      → IsUnstopped (settle program prefix (uncounted limit) t f below flow)
  unfolding settle
  settle_plain t f below (Goes way) plain k = way_plain t f below way k
  settle_plain t f below (Catch exception) plain k = unwound_plain (record t { frames = f ∷ below }) _ exception (f ∷ below) k
  settle_plain t f below Stop plain k = absurd plain
  settle_plain t f below (Call m arguments) plain k = either_way IsUnstopped (nat_le most_frames (length (f ∷ below))) _ _ tt k
  settle_plain t f below (End outcome) plain k = plain

  settled_plain : (t : State) (f : Frame Declared) (below : List (Frame Declared)) (e : Option Effect) → IsUnpassed t → IsUnchargedIfSome (part_of f t) e
      → IsUnstopped (settled program prefix (uncounted limit) t f below e)
  settled_plain t f below None k plain = tt
  settled_plain t f below (Some e) k plain =
      settle_plain (with_part t e.part) (frame_with f e.part) below e.flow plain.0 (ap (λ (a : Account). a.exceeded) plain.1 ∙ k)

  -- ---- initialisation

  abbrev IsUnstoppedStart : Initialised → Type 0
  IsUnstoppedStart (Ready t) = IsUnpassed t
  IsUnstoppedStart (Waits t) = IsUnpassed t
  IsUnstoppedStart (Fails outcome t) = PlainOutcome outcome

  then_plain : (next : State → Initialised) → ((t : State) → IsUnpassed t → IsUnstoppedStart (next t)) → (i : Initialised) → IsUnstoppedStart i → IsUnstoppedStart (then_ready next i)
  then_plain next each (Ready t) k = each t k
  then_plain next each (Waits t) k = k
  then_plain next each (Fails outcome t) k = k

  text_plain : (t : State) (place : ℕ) (units : List ℕ) (kept : Option Kept) → IsUnpassed t → IsUnstoppedStart (with_text t place units kept)
  text_plain t place units None k = tt
  text_plain t place units (Some kept) k = k

  constant_plain : (t : State) (place : ℕ) (constant : Option Constant) → IsUnpassed t → IsUnstoppedStart (with_constant prefix (uncounted limit) t place constant)
  constant_plain t place None k = k
  constant_plain t place (Some (Int z)) k = k
  constant_plain t place (Some (Long z)) k = k
  constant_plain t place (Some (Text units)) k = text_plain t place units (with_literal limit prefix t.heap t.literals units) k
  constant_plain t place (Some Unfit) k = k

  constants_plain : (class : Name) (fields : List Field) (t : State) → IsUnpassed t → IsUnstoppedStart (with_constants program prefix (uncounted limit) class fields t)
  unfolding with_constants
  constants_plain class [] t k = k
  constants_plain class (x ∷ fields) t k =
      then_plain (with_constants program prefix (uncounted limit) class fields) (constants_plain class fields)
      (if is_static x.flags then with_constant prefix (uncounted limit) t (static_place program class x.name x.desc) x.constant else Ready t)
      (either_way IsUnstoppedStart (is_static x.flags) _ _ (constant_plain t (static_place program class x.name x.desc) x.constant k) k)

  all_constants_plain : (classes : List Name) (t : State) → IsUnpassed t → IsUnstoppedStart (constants_of program prefix (uncounted limit) classes t)
  unfolding constants_of
  all_constants_plain [] t k = k
  all_constants_plain (class ∷ classes) t k =
      then_plain (constants_of program prefix (uncounted limit) classes) (all_constants_plain classes)
      (with_constants program prefix (uncounted limit) class (fields_of (class_at program class)) t)
      (constants_plain class (fields_of (class_at program class)) t k)

  frames_plain : (frames : List (Frame Declared)) (t : State) → IsUnpassed t → IsUnstoppedStart (with_frames t frames)
  frames_plain [] t k = k
  frames_plain (f ∷ frames) t k = either_way IsUnstoppedStart (nat_lt most_frames (length (f ∷ frames) + length t.frames)) _ _ tt k

  initialise_plain : (class : Name) (t : State) → IsUnpassed t → IsUnstoppedStart (initialise program prefix (uncounted limit) class t)
  unfolding initialise
  initialise_plain class t k =
      let classes : List Name = reverse (not_initialised program t.initialised (chain program class)) in
      let marked : State = record t { initialised = mark_all program classes t.initialised } in
      then_plain (λ (next : State). with_frames next (initialiser_frames program classes)) (frames_plain (initialiser_frames program classes))
      (constants_of program prefix (uncounted limit) classes marked) (all_constants_plain classes marked k)

  prepared_plain : (class : Option Name) (t : State) → IsUnpassed t → IsUnstoppedStart (prepared program prefix (uncounted limit) class t)
  prepared_plain None t k = k
  prepared_plain (Some class) t k = initialise_plain class t k

  -- ---- a step

  done_plain : (f : Frame Declared) (below : List (Frame Declared)) (i : Instruction) (p : Initialised) → IsUnstoppedStart p
      → IsUnstopped (done program prefix (uncounted limit) f below i p)
  done_plain f below i (Ready t) k =
      settled_plain t f below (effect program prefix (uncounted limit) f.method.class i (part_of f t)) k (effect_plain program prefix limit f.method.class i (part_of f t))
  done_plain f below i (Waits t) k = k
  done_plain f below i (Fails outcome t) k = k

  act_plain : (t : State) (f : Frame Declared) (below : List (Frame Declared)) (i : Option Instruction) → IsUnpassed t
      → IsUnstopped (act program prefix (uncounted limit) t f below i)
  act_plain t f below None k = tt
  act_plain t f below (Some i) k =
      done_plain f below i (prepared program prefix (uncounted limit) (used_class program prefix i) t) (prepared_plain (used_class program prefix i) t k)

  step_of_plain : (t : State) (frames : List (Frame Declared)) → IsUnpassed t → IsUnstopped (step_of program prefix (uncounted limit) t frames)
  step_of_plain t [] k = tt
  step_of_plain t (f ∷ below) k = act_plain t f below (instruction_at program f) k

  step_plain : (t : State) → IsUnpassed t → IsUnstopped (step program prefix (uncounted limit) t)
  unfolding step
  step_plain t k = step_of_plain t t.frames k

  -- ---- the steps of a run

  abbrev IsUnstoppedRun : Ran → Type 0
  IsUnstoppedRun (Going t) = IsUnpassed t
  IsUnstoppedRun (Finished outcome t n) = PlainOutcome outcome
  IsUnstoppedRun NoStep = ⊤

  one_more_plain : (r : Ran) → IsUnstoppedRun r → IsUnstoppedRun (one_more r)
  one_more_plain (Going t) k = k
  one_more_plain (Finished outcome t n) k = k
  one_more_plain NoStep k = k

  then_steps_plain : (more : State → Ran) → ((t : State) → IsUnpassed t → IsUnstoppedRun (more t)) → (a : StepAnswer) → IsUnstopped a → IsUnstoppedRun (then_steps more a)
  then_steps_plain more each (Went t) k = one_more_plain (more t) (each t k)
  then_steps_plain more each (Ended outcome t) k = k
  then_steps_plain more each IllFormed k = tt

  steps_plain : (n : ℕ) (t : State) → IsUnpassed t → IsUnstoppedRun (steps program prefix (uncounted limit) n t)
  unfolding steps
  steps_plain zero t k = k
  steps_plain (suc n) t k =
      then_steps_plain (steps program prefix (uncounted limit) n) (steps_plain n) (step program prefix (uncounted limit) t) (step_plain t k)

  start_plain : (more : State → Ran) → ((t : State) → IsUnpassed t → IsUnstoppedRun (more t)) → (a : StepAnswer) → IsUnstopped a → IsUnstoppedRun (from_start more a)
  start_plain more each (Went t) k = each t k
  start_plain more each (Ended outcome t) k = k
  start_plain more each IllFormed k = tt

  begun_plain : (i : Initialised) → IsUnstoppedStart i → IsUnstopped (begun i)
  begun_plain (Ready t) k = k
  begun_plain (Waits t) k = k
  begun_plain (Fails outcome t) k = k

  begin_plain : (entry : Declared) (input : List ℕ) (answers : List HostAnswer) → IsUnstopped (begin program prefix (uncounted limit) entry input answers)
  unfolding begin
  begin_plain entry input answers = either_way IsUnstopped (passes_limit limit (object_size (input_array input))) _ _ tt
      (begun_plain (initialise program prefix (uncounted limit) entry.class (start_state program entry (input_heap input) answers))
      (initialise_plain entry.class (start_state program entry (input_heap input) answers) refl))

-- ---- what is known of it

unstopped : (outcome : Outcome) → PlainOutcome outcome → is_stopped outcome ≡ false
unstopped (outcomes.Stopped charge) plain = absurd plain
unstopped outcomes.OkNull plain = refl
unstopped (outcomes.OkBytes bytes) plain = refl
unstopped (outcomes.Threw class message) plain = refl
unstopped (outcomes.Init class exception message) plain = refl
unstopped outcomes.Link plain = refl
unstopped outcomes.TooDeep plain = refl
unstopped (outcomes.HeapFull used size) plain = refl
unstopped (outcomes.OutOfSteps steps) plain = refl

report_plain : (program : Program) (prefix : Prefix) (limit : Option ℕ) (answers : List HostAnswer) (most : ℕ) (r : Ran) → IsUnstoppedRun program prefix limit r
    → IfSome (report_of answers most r) (λ (report : Report). is_stopped report.outcome ≡ false)
report_plain program prefix limit answers most (Going t) k = refl
report_plain program prefix limit answers most (Finished outcome t n) k = unstopped outcome k
report_plain program prefix limit answers most NoStep k = tt

pub never_stopped : NeverStopped
unfolding plain_run
never_stopped program prefix limit entry input answers most =
    report_plain program prefix limit answers most (from_start (steps program prefix (uncounted limit) most) (begin program prefix (uncounted limit) entry input answers))
    (start_plain program prefix limit (steps program prefix (uncounted limit) most) (steps_plain program prefix limit most)
    (begin program prefix (uncounted limit) entry input answers) (begin_plain program prefix limit entry input answers))
