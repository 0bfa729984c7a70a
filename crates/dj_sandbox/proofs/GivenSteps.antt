-- A step that the host need not answer is the same one whatever the host gives, and takes none of it; one that waits for an answer takes the one that it asks for.
use Rattle.std.proofs.Common.{◌≡◌, ℕ, ◌+◌, ℤ, pos, List, [], ◌∷◌, length, reverse, Option, Some, None, nat_lt, nat_le, refl, sym, ap, ◌∙◌, subst, if◌then◌else◌}
use Rattle.std.specs.Prelude.{⊤}
use Rattle.dj_names.specs.declared.descriptor.Ty.{Ty}
use Rattle.dj_names.specs.declared.run.Value.{Value}
use Rattle.dj_names.specs.declared.native.NativeId.{NativeId}
use Rattle.dj_names.specs.trusted.Heaps.{Object, object_size, with_new, next_number}
use Rattle.dj_names.specs.trusted.Types.{Name}
use Rattle.dj_edge.specs.declared.host.HostAnswer.{HostAnswer}
use Rattle.dj_edge.specs.declared.host.HostAnswer.TheVariants as host
use Rattle.dj_model.specs.trusted.Types.{Prefix, Declared}
use Rattle.dj_model.specs.trusted.Instructions.{Instruction}
use Rattle.dj_model.specs.trusted.Program.{Program, Field, Constant, Int, Long, Text, Unfit, class_at, fields_of, is_static, code_of, is_initialiser}
use Rattle.dj_model.specs.trusted.Linking.{chain, static_place}
use Rattle.dj_model.specs.trusted.State.{Terms, Frame, State, instruction_at, Part, Way, Next, To, Raise, Back, Flow, Goes, Catch, Stop, Call, End, Effect}
use Rattle.dj_model.specs.trusted.Arrays.{passes_limit}
use Rattle.dj_model.specs.trusted.Natives.{Question, Word, Nanos, Millis, asks, answered, host_answer}
use Rattle.dj_model.specs.trusted.Performing.{class_at_number, seen, perform, with_answer, host_asked, native_asked, native}
use Rattle.dj_model.specs.trusted.Members.{Kept, with_literal}
use Rattle.dj_model.specs.trusted.Effects.{used_class}
use Rattle.dj_model.specs.trusted.Initialisation.{most_frames, mark_all, not_initialised, Initialised, Ready, Waits, Fails, then_ready, with_text, with_constant, with_constants, constants_of, initialiser_frames, with_frames, initialise_all, initialise}
use Rattle.dj_model.specs.trusted.Step.{StepAnswer, Went, Ended, IllFormed, handler_of, at_handler, unwound, throw_new, new_exception, new_stop, stop_from, throw_stop_or, returned, settle_way, settle, part_of, with_part, frame_with, settled, prepared, done, act, step_of, step}
use Rattle.dj_model.specs.Standing.{IsUnanswered, IsStarved, IsStarvedAt}
use Rattle.dj_sandbox.proofs.GivenEffects.{part_given, effect_given, Follows, both_ways, perform_alike, effect_follows}

-- ---- other answers

abbrev pub state_given : List HostAnswer → State → State
state_given given s = record s { answers = given }

abbrev pub initialised_given : List HostAnswer → Initialised → Initialised
initialised_given given (Ready s) = Ready (state_given given s)
initialised_given given (Waits s) = Waits (state_given given s)
initialised_given given (Fails outcome s) = Fails outcome (state_given given s)

abbrev pub answer_given : List HostAnswer → StepAnswer → StepAnswer
answer_given given (Went s) = Went (state_given given s)
answer_given given (Ended outcome s) = Ended outcome (state_given given s)
answer_given given IllFormed = IllFormed

-- the one step is there, and the other one is the same but for the answers that are left
abbrev pub Moves : List HostAnswer → StepAnswer → StepAnswer → Type 0
Moves given (Went s) other = other ≡ Went (state_given given s)
Moves given (Ended outcome s) other = other ≡ Ended outcome (state_given given s)
Moves given IllFormed other = ⊥

-- it is so where the one step is there
abbrev pub MovesAfter : List HostAnswer → StepAnswer → StepAnswer → Type 0
MovesAfter given (Went s) other = other ≡ Went (state_given given s)
MovesAfter given (Ended outcome s) other = other ≡ Ended outcome (state_given given s)
MovesAfter given IllFormed other = ⊤

moves_after : (given : List HostAnswer) (a b : StepAnswer) → Moves given a b → MovesAfter given a b
moves_after given (Went s) b m = m
moves_after given (Ended outcome s) b m = m
moves_after given IllFormed b m = tt

module _ (given : List HostAnswer) (program : Program) (prefix : Prefix) (terms : Terms) where
  abbrev more : State → State
  more s = state_given given s

  -- ---- initialisation

  then_alike : (next : State → Initialised) → ((s : State) → next (more s) ≡ initialised_given given (next s)) → (i : Initialised)
      → then_ready next (initialised_given given i) ≡ initialised_given given (then_ready next i)
  then_alike next each (Ready s) = each s
  then_alike next each (Waits s) = refl
  then_alike next each (Fails outcome s) = refl

  text_alike : (s : State) (place : ℕ) (units : List ℕ) (k : Option Kept) → with_text (more s) place units k ≡ initialised_given given (with_text s place units k)
  text_alike s place units None = refl
  text_alike s place units (Some k) = refl

  constant_alike : (s : State) (place : ℕ) (constant : Option Constant) → with_constant prefix terms (more s) place constant ≡ initialised_given given (with_constant prefix terms s place constant)
  constant_alike s place None = refl
  constant_alike s place (Some (Int z)) = refl
  constant_alike s place (Some (Long z)) = refl
  constant_alike s place (Some (Text units)) = text_alike s place units (with_literal terms.limit prefix s.heap s.literals units)
  constant_alike s place (Some Unfit) = refl

  field_alike : (s : State) (class : Name) (x : Field)
      → (if is_static x.flags then with_constant prefix terms (more s) (static_place program class x.name x.desc) x.constant else Ready (more s))
      ≡ initialised_given given (if is_static x.flags then with_constant prefix terms s (static_place program class x.name x.desc) x.constant else Ready s)
  field_alike s class x = both_ways (λ (i j : Initialised). j ≡ initialised_given given i) (is_static x.flags) _ _ _ _
      (constant_alike s (static_place program class x.name x.desc) x.constant) refl

  constants_alike : (class : Name) (fields : List Field) (s : State)
      → with_constants program prefix terms class fields (more s) ≡ initialised_given given (with_constants program prefix terms class fields s)
  unfolding with_constants
  constants_alike class [] s = refl
  constants_alike class (x ∷ fields) s =
      ap (then_ready (with_constants program prefix terms class fields)) (field_alike s class x)
      ∙ then_alike (with_constants program prefix terms class fields) (constants_alike class fields)
      (if is_static x.flags then with_constant prefix terms s (static_place program class x.name x.desc) x.constant else Ready s)

  all_constants_alike : (classes : List Name) (s : State) → constants_of program prefix terms classes (more s) ≡ initialised_given given (constants_of program prefix terms classes s)
  unfolding constants_of
  all_constants_alike [] s = refl
  all_constants_alike (class ∷ classes) s =
      ap (then_ready (constants_of program prefix terms classes)) (constants_alike class (fields_of (class_at program class)) s)
      ∙ then_alike (constants_of program prefix terms classes) (all_constants_alike classes) (with_constants program prefix terms class (fields_of (class_at program class)) s)

  frames_alike : (s : State) (frames : List (Frame Declared)) → with_frames (more s) frames ≡ initialised_given given (with_frames s frames)
  frames_alike s [] = refl
  frames_alike s (f ∷ frames) = both_ways (λ (i j : Initialised). j ≡ initialised_given given i) (nat_lt most_frames (length (f ∷ frames) + length s.frames)) _ _ _ _ refl refl

  all_alike : (classes : List Name) (s : State) → initialise_all program prefix terms classes (more s) ≡ initialised_given given (initialise_all program prefix terms classes s)
  all_alike classes s =
      let marked : State = record s { initialised = mark_all program classes s.initialised } in
      ap (then_ready (λ (next : State). with_frames next (initialiser_frames program classes))) (all_constants_alike classes marked)
      ∙ then_alike (λ (next : State). with_frames next (initialiser_frames program classes)) (λ next. frames_alike next (initialiser_frames program classes))
      (constants_of program prefix terms classes marked)

  pub initialise_alike : (class : Name) (s : State) → initialise program prefix terms class (more s) ≡ initialised_given given (initialise program prefix terms class s)
  unfolding initialise
  initialise_alike class s = all_alike (reverse (not_initialised program s.initialised (chain program class))) s

  prepared_alike : (used : Option Name) (s : State) → prepared program prefix terms used (more s) ≡ initialised_given given (prepared program prefix terms used s)
  prepared_alike None s = refl
  prepared_alike (Some class) s = initialise_alike class s

  -- ---- exceptions

  handler_moves : (s : State) (class : Ty) (exception : ℕ) (f : Frame Declared) (below : List (Frame Declared)) (handler : Option ℕ) (a b : StepAnswer) → Moves given a b
      → Moves given (at_handler prefix s class exception f below handler a) (at_handler prefix (more s) class exception f below handler b)
  handler_moves s class exception f below (Some handler) a b m = refl
  handler_moves s class exception f below None a b m = both_ways (Moves given) (is_initialiser f.method) _ _ _ _ refl m

  unwound_moves : (s : State) (class : Ty) (exception : ℕ) (frames : List (Frame Declared))
      → Moves given (unwound program prefix s class exception frames) (unwound program prefix (more s) class exception frames)
  unfolding unwound
  unwound_moves s class exception [] = refl
  unwound_moves s class exception (f ∷ below) =
      handler_moves s class exception f below (handler_of program prefix class f.number (code_of program f.method)) _ _ (unwound_moves s class exception below)

  thrown_moves : (s : State) (o : Object Ty) → Moves given (throw_new program prefix terms s o) (throw_new program prefix terms (more s) o)
  thrown_moves s o = both_ways (Moves given) (passes_limit terms.limit (s.heap.used + object_size o)) _ _ _ _ refl
      (unwound_moves (record s { heap = with_new s.heap o }) (class_at_number (with_new s.heap o) (next_number s.heap)) (next_number s.heap) s.frames)

  -- ---- what follows an effect

  back_moves : (s : State) (f : Frame Declared) (result : Option Value) (below : List (Frame Declared)) → Moves given (returned s f result below) (returned (more s) f result below)
  back_moves s f result [] = refl
  back_moves s f result (caller ∷ below) = refl

  stop_moves : (s : State) (r : Option ℕ) → Moves given (throw_stop_or program prefix terms s r) (throw_stop_or program prefix terms (more s) r)
  stop_moves s None = thrown_moves s new_stop
  stop_moves s (Some r) = unwound_moves s (class_at_number s.heap r) r s.frames

  way_moves : (s : State) (f : Frame Declared) (below : List (Frame Declared)) (way : Way)
      → Moves given (settle_way program prefix terms s f below way) (settle_way program prefix terms (more s) f below way)
  way_moves s f below Next = refl
  way_moves s f below (To number) = refl
  way_moves s f below (Raise raised) = thrown_moves (record s { frames = f ∷ below }) (new_exception prefix raised)
  way_moves s f below (Back result) = back_moves s f result below

  settle_moves : (s : State) (f : Frame Declared) (below : List (Frame Declared)) (flow : Flow)
      → Moves given (settle program prefix terms s f below flow) (settle program prefix terms (more s) f below flow)
  unfolding settle
  settle_moves s f below (Goes way) = way_moves s f below way
  settle_moves s f below (Catch exception) = unwound_moves (record s { frames = f ∷ below }) (class_at_number s.heap exception) exception (f ∷ below)
  settle_moves s f below Stop = stop_moves (record s { frames = f ∷ below }) (stop_from prefix 1 s.heap.objects)
  settle_moves s f below (Call method arguments) = both_ways (Moves given) (nat_le most_frames (length (f ∷ below))) _ _ _ _ refl refl
  settle_moves s f below (End outcome) = refl

  settled_moves : (s t : State) (f : Frame Declared) (below : List (Frame Declared)) (a b : Option Effect) → t ≡ more s → Follows given a b
      → MovesAfter given (settled program prefix terms s f below a) (settled program prefix terms t f below b)
  settled_moves s t f below None b e k = tt
  settled_moves s t f below (Some a) b e k =
      let A : StepAnswer = settle program prefix terms (with_part s a.part) (frame_with f a.part) below a.flow in
      subst (λ (u : State). MovesAfter given A (settled program prefix terms u f below b)) (sym e)
      (subst (λ (o : Option Effect). MovesAfter given A (settled program prefix terms (more s) f below o)) (sym k)
      (moves_after given A _ (settle_moves (with_part s a.part) (frame_with f a.part) below a.flow)))

-- ---- a step that the host need not answer

module _ (given : List HostAnswer) (program : Program) (prefix : Prefix) (terms : Terms) where
  done_moves : (f : Frame Declared) (below : List (Frame Declared)) (i : Instruction) (r : Initialised)
      → MovesAfter given (done program prefix terms f below i (initialised_given [] r)) (done program prefix terms f below i (initialised_given given r))
  done_moves f below i (Ready s) =
      settled_moves given program prefix terms (state_given [] s) (state_given given s) f below _ _ refl (effect_follows given program prefix terms f.method.class i (part_of f s))
  done_moves f below i (Waits s) = refl
  done_moves f below i (Fails outcome s) = refl

  act_moves : (s : State) (f : Frame Declared) (below : List (Frame Declared)) (i : Option Instruction)
      → MovesAfter given (act program prefix terms (state_given [] s) f below i) (act program prefix terms (state_given given s) f below i)
  act_moves s f below None = tt
  act_moves s f below (Some i) =
      let used = used_class program prefix i in
      subst (λ (r : Initialised). MovesAfter given (done program prefix terms f below i r) (done program prefix terms f below i (prepared program prefix terms used (state_given given s))))
      (sym (prepared_alike [] program prefix terms used s))
      (subst (λ (r : Initialised). MovesAfter given (done program prefix terms f below i (initialised_given [] (prepared program prefix terms used s))) (done program prefix terms f below i r))
      (sym (prepared_alike given program prefix terms used s))
      (done_moves f below i (prepared program prefix terms used s)))

  step_of_moves : (s : State) (frames : List (Frame Declared))
      → MovesAfter given (step_of program prefix terms (state_given [] s) frames) (step_of program prefix terms (state_given given s) frames)
  step_of_moves s [] = tt
  step_of_moves s (f ∷ below) = act_moves s f below (instruction_at program f)

  pub step_moves : (s : State) → MovesAfter given (step program prefix terms (state_given [] s)) (step program prefix terms (state_given given s))
  unfolding step
  step_moves s = step_of_moves s s.frames

-- ---- a step that waits for an answer

-- each question has one
record IsReply (question : Question) : Type 0 where
  reply : HostAnswer
  number : ℤ
  reported : answered question reply ≡ Some number

reply_to : (question : Question) → IsReply question
reply_to Word = record { reply = host.Word (pos 0); number = pos 0; reported = refl }
reply_to Nanos = record { reply = host.Nanos (pos 0); number = pos 0; reported = refl }
reply_to Millis = record { reply = host.Millis (pos 0); number = pos 0; reported = refl }

-- the step is there where this answer is given, and takes it alone
pub record IsAsking (program : Program) (prefix : Prefix) (terms : Terms) (s : State) : Type 0 where
  pub reply : HostAnswer
  pub after : StepAnswer
  pub moves : (given : List HostAnswer) → Moves given after (step program prefix terms (state_given (reply ∷ given) s))

module _ (program : Program) (prefix : Prefix) (terms : Terms) (s : State) where
  replied : (given : List HostAnswer) (p : Part) (id : NativeId) (args : List Value) (question : Question) → asks id args ≡ Some question → (reply : IsReply question)
      → native program prefix terms (part_given (reply.reply ∷ given) p) id args
      ≡ Some (effect_given given (perform prefix terms p (host_answer id (seen program prefix p.heap) reply.number args)))
  unfolding native
  replied given p id args question asked reply =
      ap (native_asked program prefix terms (part_given (reply.reply ∷ given) p) id args) asked
      ∙ ap (with_answer program prefix terms (part_given given p) id args) reply.reported
      ∙ ap Some (perform_alike given prefix terms p (host_answer id (seen program prefix p.heap) reply.number args))

  unanswered_is : (p : Part) (id : NativeId) (args : List Value) (question : Question) (answers : List HostAnswer) → IsUnanswered question answers
      → host_asked program prefix terms p id args question answers ≡ None
  unanswered_is p id args question [] none = refl
  unanswered_is p id args question (first ∷ rest) none = ap (with_answer program prefix terms (part_given rest p) id args) none

  -- where the step waits, it acts so
  step_acts : (top : Frame Declared) (below : List (Frame Declared)) (i : Instruction) (t : State) → t.frames ≡ top ∷ below → instruction_at program top ≡ Some i
      → step program prefix terms t ≡ done program prefix terms top below i (prepared program prefix terms (used_class program prefix i) t)
  unfolding step
  step_acts top below i t frames at =
      ap (step_of program prefix terms t) frames ∙ ap (act program prefix terms t top below) at

  -- without an answer there is no step
  pub starved_none : IsStarvedAt program prefix terms s → step program prefix terms s ≡ IllFormed
  unfolding native
  starved_none starved =
      let w = starved.starved in
      let p = part_of starved.top starved.ready in
      step_acts starved.top starved.below starved.instruction s starved.frames starved.at
      ∙ ap (done program prefix terms starved.top starved.below starved.instruction) starved.prepared
      ∙ ap (settled program prefix terms starved.ready starved.top starved.below)
      (w.does p.answers
      ∙ ap (native_asked program prefix terms (record p { operands = w.rest }) w.id w.arguments) w.asks
      ∙ unanswered_is (record p { operands = w.rest }) w.id w.arguments w.question p.answers w.unanswered)

  -- and with one there is
  pub starved_waits : IsStarvedAt program prefix terms (state_given [] s) → IsAsking program prefix terms s
  starved_waits starved = record { reply = reply.reply; after = after; moves = moves } where
    w : IsStarved program prefix terms starved.top.method.class starved.instruction (part_of starved.top starved.ready)
    w = starved.starved

    reply : IsReply w.question
    reply = reply_to w.question

    taken : Part
    taken = record (part_of starved.top starved.ready) { operands = w.rest }

    does : Effect
    does = perform prefix terms taken (host_answer w.id (seen program prefix taken.heap) reply.number w.arguments)

    after : StepAnswer
    after = settle program prefix terms (with_part starved.ready does.part) (frame_with starved.top does.part) starved.below does.flow

    acts : (given : List HostAnswer) → step program prefix terms (state_given (reply.reply ∷ given) s)
        ≡ settled program prefix terms (state_given (reply.reply ∷ given) starved.ready) starved.top starved.below (Some (effect_given given does))
    acts given =
        step_acts starved.top starved.below starved.instruction (state_given (reply.reply ∷ given) s) starved.frames starved.at
        ∙ ap (done program prefix terms starved.top starved.below starved.instruction)
        (prepared_alike (reply.reply ∷ given) program prefix terms (used_class program prefix starved.instruction) (state_given [] s)
        ∙ ap (initialised_given (reply.reply ∷ given)) starved.prepared)
        ∙ ap (settled program prefix terms (state_given (reply.reply ∷ given) starved.ready) starved.top starved.below)
        (w.does (reply.reply ∷ given) ∙ replied given taken w.id w.arguments w.question w.asks reply)

    moves : (given : List HostAnswer) → Moves given after (step program prefix terms (state_given (reply.reply ∷ given) s))
    moves given = subst (Moves given after) (sym (acts given))
        (settle_moves given program prefix terms (with_part starved.ready does.part) (frame_with starved.top does.part) starved.below does.flow)
