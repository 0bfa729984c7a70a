-- Never more than 1,024 frames stand above each other, and each class is initialised once.
use Rattle.std.proofs.Common.{◌≡◌, ℕ, ◌+◌, ◌≤◌, Bool, true, false, IsTrue, List, [], ◌∷◌, length, reverse, Option, Some, None, nat_lt, nat_le, refl, sym, subst, ◌∙◌, inl, inr, if◌then◌else◌, arith}
use Rattle.std.proofs.lemmas.List.{length-append}
use Rattle.std.proofs.lemmas.Bool.Decides.{nat_tests}
use Rattle.std.specs.Prelude.{⊤}
use Rattle.dj_names.specs.declared.descriptor.Ty.{Ty}
use Rattle.dj_names.specs.declared.run.Value.{Value}
use Rattle.dj_names.specs.trusted.Heaps.{Object, object_size}
use Rattle.dj_names.specs.trusted.Types.{Name, same_name}
use Rattle.dj_edge.specs.declared.host.HostAnswer.{HostAnswer}
use Rattle.dj_model.specs.trusted.Types.{Prefix, Declared}
use Rattle.dj_model.specs.trusted.Instructions.{Instruction}
use Rattle.dj_model.specs.trusted.Program.{Program, Field, Constant, Int, Long, Text, Unfit, class_at, fields_of, is_static, is_initialiser, code_of}
use Rattle.dj_model.specs.trusted.Linking.{chain, static_place}
use Rattle.dj_model.specs.trusted.State.{Terms, Frame, State, Way, Next, To, Raise, Back, Flow, Goes, Catch, Stop, Call, End, Effect, instruction_at}
use Rattle.dj_model.specs.trusted.Arrays.{passes_limit}
use Rattle.dj_model.specs.trusted.Members.{Kept, with_literal}
use Rattle.dj_model.specs.trusted.Effects.{effect, used_class}
use Rattle.dj_model.specs.trusted.Initialisation.{most_frames, is_initialised, mark, mark_all, not_initialised, Initialised, Ready, Waits, Fails, then_ready, with_text, with_constant, with_constants, constants_of, initialiser_frames, with_frames, initialise}
use Rattle.dj_model.specs.trusted.Step.{StepAnswer, handler_of, leaves_frame, at_handler, unwound, throw_new, new_exception, new_stop, stop_from, throw_stop_or, called, returned, settle_way, settle, with_part, frame_with, part_of, settled, prepared, done, act, step_of, step}
use Rattle.dj_model.specs.trusted.Runs.{input_array, input_heap, start_state, begun, begin}
use Rattle.dj_model.specs.Laws.{AnswerFew}
use Rattle.dj_model.proofs.MappedNames.{either}
use Rattle.dj_model.proofs.Flows.{either_way}

-- ---- what the constants of static fields leave

-- frames and flags are as before
unfoldable pub KeepsMore : State → Initialised → Type 0
KeepsMore s (Ready t) = (t.frames ≡ s.frames) × (t.initialised ≡ s.initialised)
KeepsMore s (Waits t) = ⊥
KeepsMore s (Fails outcome t) = ⊤

then_keeps : (next : State → Initialised) (s : State) → ((t : State) → KeepsMore t (next t)) → (i : Initialised) → KeepsMore s i → KeepsMore s (then_ready next i)
unfolding KeepsMore
then_keeps next s each (Ready t) k = both (next t) (each t) where
  both : (i : Initialised) → KeepsMore t i → KeepsMore s i
  both (Ready u) e = (e.0 ∙ k.0, e.1 ∙ k.1)
  both (Waits u) e = e
  both (Fails outcome u) e = tt
then_keeps next s each (Waits t) k = k
then_keeps next s each (Fails outcome t) k = tt

text_keeps : (s : State) (place : ℕ) (units : List ℕ) (k : Option Kept) → KeepsMore s (with_text s place units k)
unfolding KeepsMore
text_keeps s place units None = tt
text_keeps s place units (Some k) = (refl, refl)

constant_keeps : (prefix : Prefix) (terms : Terms) (s : State) (place : ℕ) (constant : Option Constant) → KeepsMore s (with_constant prefix terms s place constant)
unfolding KeepsMore
constant_keeps prefix terms s place None = (refl, refl)
constant_keeps prefix terms s place (Some (Int z)) = (refl, refl)
constant_keeps prefix terms s place (Some (Long z)) = (refl, refl)
constant_keeps prefix terms s place (Some (Text units)) = text_keeps s place units (with_literal terms.limit prefix s.heap s.literals units)
constant_keeps prefix terms s place (Some Unfit) = (refl, refl)

field_keeps : (prefix : Prefix) (terms : Terms) (s : State) (place : ℕ) (x : Field) (b : Bool)
    → KeepsMore s (if b then with_constant prefix terms s place x.constant else Ready s)
unfolding KeepsMore
field_keeps prefix terms s place x true = constant_keeps prefix terms s place x.constant
field_keeps prefix terms s place x false = (refl, refl)

constants_keep : (program : Program) (prefix : Prefix) (terms : Terms) (class : Name) (fields : List Field) (s : State)
    → KeepsMore s (with_constants program prefix terms class fields s)
unfolding with_constants KeepsMore
constants_keep program prefix terms class [] s = (refl, refl)
constants_keep program prefix terms class (x ∷ fields) s =
    then_keeps (with_constants program prefix terms class fields) s (constants_keep program prefix terms class fields)
    (if is_static x.flags then with_constant prefix terms s (static_place program class x.name x.desc) x.constant else Ready s)
    (field_keeps prefix terms s (static_place program class x.name x.desc) x (is_static x.flags))

pub all_constants_keep : (program : Program) (prefix : Prefix) (terms : Terms) (classes : List Name) (s : State)
    → KeepsMore s (constants_of program prefix terms classes s)
unfolding constants_of KeepsMore
all_constants_keep program prefix terms [] s = (refl, refl)
all_constants_keep program prefix terms (class ∷ classes) s =
    then_keeps (constants_of program prefix terms classes) s (all_constants_keep program prefix terms classes)
    (with_constants program prefix terms class (fields_of (class_at program class)) s) (constants_keep program prefix terms class (fields_of (class_at program class)) s)

-- ---- few frames

abbrev IsFew : Initialised → Type 0
IsFew (Ready t) = length t.frames ≤ most_frames
IsFew (Waits t) = length t.frames ≤ most_frames
IsFew (Fails outcome t) = ⊤

with_frames_few : (s : State) (frames : List (Frame Declared)) → length s.frames ≤ most_frames → IsFew (with_frames s frames)
with_frames_few s [] few = few
with_frames_few s (f ∷ frames) few = elim (either (nat_lt most_frames (length (f ∷ frames) + length s.frames))) [
  | inl e ↦ rw e tt
  | inr e ↦ rw (e, length-append frames s.frames) (grind (arith, nat_tests))
]

initialise_few : (program : Program) (prefix : Prefix) (terms : Terms) (class : Name) (s : State) → length s.frames ≤ most_frames
    → IsFew (initialise program prefix terms class s)
unfolding initialise KeepsMore
initialise_few program prefix terms class s few =
    go (constants_of program prefix terms classes marked) (all_constants_keep program prefix terms classes marked) where
      classes : List Name
      classes = reverse (not_initialised program s.initialised (chain program class))

      marked : State
      marked = record s { initialised = mark_all program classes s.initialised }

      go : (i : Initialised) → KeepsMore marked i → IsFew (then_ready (λ next. with_frames next (initialiser_frames program classes)) i)
      go (Ready t) k = with_frames_few t (initialiser_frames program classes) (subst (λ frames. length frames ≤ most_frames) (sym k.0) few)
      go (Waits t) k = absurd k
      go (Fails outcome t) k = tt

leaves_few : (prefix : Prefix) (s : State) (class : Ty) (exception : ℕ) (f : Frame Declared) (below : StepAnswer) → AnswerFew below
    → AnswerFew (leaves_frame prefix s class exception f below)
leaves_few prefix s class exception f below k = elim (either (is_initialiser f.method)) [ inl e ↦ rw e tt | inr e ↦ rw e k ]

handled_few : (prefix : Prefix) (s : State) (class : Ty) (exception : ℕ) (f : Frame Declared) (below : List (Frame Declared)) (handler : Option ℕ) (otherwise : StepAnswer)
    → length (f ∷ below) ≤ most_frames → AnswerFew otherwise → AnswerFew (at_handler prefix s class exception f below handler otherwise)
handled_few prefix s class exception f below None otherwise few k = leaves_few prefix s class exception f otherwise k
handled_few prefix s class exception f below (Some handler) otherwise few k = few

unwound_few : (program : Program) (prefix : Prefix) (s : State) (class : Ty) (exception : ℕ) (frames : List (Frame Declared)) → length frames ≤ most_frames
    → AnswerFew (unwound program prefix s class exception frames)
unfolding unwound
unwound_few program prefix s class exception [] few = tt
unwound_few program prefix s class exception (f ∷ below) few =
    handled_few prefix s class exception f below (handler_of program prefix class f.number (code_of program f.method)) _ few
    (unwound_few program prefix s class exception below (omega (arith, few)))

throw_new_few : (program : Program) (prefix : Prefix) (terms : Terms) (s : State) (object : Object Ty) → length s.frames ≤ most_frames
    → AnswerFew (throw_new program prefix terms s object)
throw_new_few program prefix terms s object few = elim (either (passes_limit terms.limit (s.heap.used + object_size object))) [
  | inl e ↦ rw e tt
  | inr e ↦ rw e (unwound_few program prefix _ _ _ s.frames few)
]

stop_few : (program : Program) (prefix : Prefix) (terms : Terms) (s : State) (r : Option ℕ) → length s.frames ≤ most_frames
    → AnswerFew (throw_stop_or program prefix terms s r)
stop_few program prefix terms s None few = throw_new_few program prefix terms s new_stop few
stop_few program prefix terms s (Some r) few = unwound_few program prefix s _ r s.frames few

called_few : (program : Program) (s : State) (m : Declared) (arguments : List Value) → AnswerFew (called program s m arguments)
called_few program s m arguments = elim (either (nat_le most_frames (length s.frames))) [
  | inl e ↦ rw e tt
  | inr e ↦ rw e (grind (arith, nat_tests))
]

returned_few : (s : State) (f : Frame Declared) (result : Option Value) (below : List (Frame Declared)) → length (f ∷ below) ≤ most_frames
    → AnswerFew (returned s f result below)
returned_few s f result [] few = tt
returned_few s f result (caller ∷ below) few = omega (arith, few)

way_few : (program : Program) (prefix : Prefix) (terms : Terms) (s : State) (f : Frame Declared) (below : List (Frame Declared)) (way : Way)
    → length (f ∷ below) ≤ most_frames → AnswerFew (settle_way program prefix terms s f below way)
way_few program prefix terms s f below Next few = few
way_few program prefix terms s f below (To number) few = few
way_few program prefix terms s f below (Raise raised) few = throw_new_few program prefix terms (record s { frames = f ∷ below }) (new_exception prefix raised) few
way_few program prefix terms s f below (Back result) few = returned_few s f result below few

settle_few : (program : Program) (prefix : Prefix) (terms : Terms) (s : State) (f : Frame Declared) (below : List (Frame Declared)) (flow : Flow)
    → length (f ∷ below) ≤ most_frames → AnswerFew (settle program prefix terms s f below flow)
unfolding settle
settle_few program prefix terms s f below (Goes way) few = way_few program prefix terms s f below way few
settle_few program prefix terms s f below (Catch exception) few = unwound_few program prefix (record s { frames = f ∷ below }) _ exception (f ∷ below) few
settle_few program prefix terms s f below Stop few = stop_few program prefix terms (record s { frames = f ∷ below }) (stop_from prefix 1 s.heap.objects) few
settle_few program prefix terms s f below (Call m arguments) few = called_few program (record s { frames = f ∷ below }) m arguments
settle_few program prefix terms s f below (End outcome) few = tt

settled_few : (program : Program) (prefix : Prefix) (terms : Terms) (s : State) (f : Frame Declared) (below : List (Frame Declared)) (e : Option Effect)
    → length (f ∷ below) ≤ most_frames → AnswerFew (settled program prefix terms s f below e)
settled_few program prefix terms s f below None few = tt
settled_few program prefix terms s f below (Some e) few = settle_few program prefix terms (with_part s e.part) (frame_with f e.part) below e.flow few

done_few : (program : Program) (prefix : Prefix) (terms : Terms) (f : Frame Declared) (below : List (Frame Declared)) (i : Instruction) (p : Initialised)
    → length (f ∷ below) ≤ most_frames → IsFew p → AnswerFew (done program prefix terms f below i p)
done_few program prefix terms f below i (Ready s) few k = settled_few program prefix terms s f below (effect program prefix terms f.method.class i (part_of f s)) few
done_few program prefix terms f below i (Waits s) few k = k
done_few program prefix terms f below i (Fails outcome s) few k = tt

prepared_few : (program : Program) (prefix : Prefix) (terms : Terms) (class : Option Name) (s : State) → length s.frames ≤ most_frames
    → IsFew (prepared program prefix terms class s)
prepared_few program prefix terms None s few = few
prepared_few program prefix terms (Some class) s few = initialise_few program prefix terms class s few

act_few : (program : Program) (prefix : Prefix) (terms : Terms) (s : State) (f : Frame Declared) (below : List (Frame Declared)) (i : Option Instruction)
    → length (f ∷ below) ≤ most_frames → length s.frames ≤ most_frames → AnswerFew (act program prefix terms s f below i)
act_few program prefix terms s f below None few k = tt
act_few program prefix terms s f below (Some i) few k =
    done_few program prefix terms f below i (prepared program prefix terms (used_class program prefix i) s) few
    (prepared_few program prefix terms (used_class program prefix i) s k)

step_of_few : (program : Program) (prefix : Prefix) (terms : Terms) (s : State) (frames : List (Frame Declared)) → length frames ≤ most_frames
    → length s.frames ≤ most_frames → AnswerFew (step_of program prefix terms s frames)
step_of_few program prefix terms s [] few k = tt
step_of_few program prefix terms s (f ∷ below) few k = act_few program prefix terms s f below (instruction_at program f) few k

pub step_few : (program : Program) (prefix : Prefix) (terms : Terms) (s : State) → length s.frames ≤ most_frames → AnswerFew (step program prefix terms s)
unfolding step
step_few program prefix terms s few = step_of_few program prefix terms s s.frames few few

begun_few : (i : Initialised) → IsFew i → AnswerFew (begun i)
begun_few (Ready s) k = k
begun_few (Waits s) k = k
begun_few (Fails outcome s) k = tt

pub begin_few : (program : Program) (prefix : Prefix) (terms : Terms) (entry : Declared) (input : List ℕ) (answers : List HostAnswer)
    → AnswerFew (begin program prefix terms entry input answers)
unfolding begin
begin_few program prefix terms entry input answers =
    either_way AnswerFew (passes_limit terms.limit (object_size (input_array input))) _ _ tt
    (begun_few (initialise program prefix terms entry.class (start_state program entry (input_heap input) answers))
    (initialise_few program prefix terms entry.class (start_state program entry (input_heap input) answers) (omega arith)))

-- ---- once

pub marked : (program : Program) (class : Name) (flags : List Bool) → IsTrue (is_initialised program (mark program class flags) class)
unfolding is_initialised mark
marked [] class flags = refl
marked (c ∷ classes) class [] = refl
marked (c ∷ classes) class (flag ∷ flags) = elim (either (same_name c.name class)) [
  | inl e ↦ rw e (rw e refl)
  | inr e ↦ rw e (rw e (marked classes class flags))
]

pub stays_marked : (program : Program) (class other : Name) (flags : List Bool) → IsTrue (is_initialised program flags other)
    → IsTrue (is_initialised program (mark program class flags) other)
unfolding is_initialised mark
stays_marked [] class other flags k = refl
stays_marked (c ∷ classes) class other [] k = refl
stays_marked (c ∷ classes) class other (flag ∷ flags) k = elim (either (same_name c.name class)) [
  | inl e ↦ elim (either (same_name c.name other)) [ inl d ↦ rw (e, d) refl | inr d ↦ rw (e, d) (rw d at k) ]
  | inr e ↦ elim (either (same_name c.name other)) [ inl d ↦ rw (e, d) (rw d at k) | inr d ↦ rw (e, d) (stays_marked classes class other flags (rw d at k)) ]
]

pub all_stay_marked : (program : Program) (classes : List Name) (other : Name) (flags : List Bool) → IsTrue (is_initialised program flags other)
    → IsTrue (is_initialised program (mark_all program classes flags) other)
all_stay_marked program [] other flags k = k
all_stay_marked program (class ∷ classes) other flags k =
    all_stay_marked program classes other (mark program class flags) (stays_marked program class other flags k)
