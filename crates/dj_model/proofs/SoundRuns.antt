-- The frames of a run of a sound program have the kinds that shape says, and no step or turn of it is ill-formed.
use Rattle.std.proofs.Common.{◌≡◌, ℕ, zero, suc, ◌+◌, ◌<◌, ◌&&◌, Bool, true, false, List, [], ◌∷◌, ◌++◌, length, map, reverse, Option, Some, None, nat_le, nat_lt, refl, sym, ap, subst, ◌∙◌, if◌then◌else◌, inl, inr, arith, IsTrue, IsFalse, Contains}
use Rattle.std.specs.Prelude.{⊤, ◌⊎◌, IsSome}
use Rattle.std.specs.Option.{option_map}
use Rattle.std.proofs.lemmas.List.{append_assoc}
use Rattle.dj_names.specs.declared.descriptor.Kind.{Kind}
use Rattle.dj_names.specs.declared.descriptor.Kind.TheVariants as kinds
use Rattle.dj_names.specs.declared.descriptor.Ty.{Ty}
use Rattle.dj_names.specs.declared.descriptor.Desc.{Desc}
use Rattle.dj_names.specs.declared.run.Value.{Value}
use Rattle.dj_names.specs.declared.run.Value.TheVariants as values
use Rattle.dj_names.specs.declared.run.Thresholds.{Thresholds}
use Rattle.dj_names.specs.trusted.Values.{value_kind}
use Rattle.dj_names.specs.trusted.Heaps.{Object, object_size, with_new, next_number}
use Rattle.dj_names.specs.trusted.Types.{Name}
use Rattle.dj_edge.specs.declared.host.HostAnswer.{HostAnswer}
use Rattle.dj_model.specs.trusted.Types.{Prefix, Declared}
use Rattle.dj_model.specs.trusted.Instructions.{Instruction, Invoke, ends}
use Rattle.dj_model.specs.Instructions.{calls}
use Rattle.dj_model.specs.trusted.Program.{Program, Code, Range, is_static, is_initialiser, initialiser_of, has_initialiser, code_of}
use Rattle.dj_model.specs.trusted.Linking.{chain, option_list}
use Rattle.dj_model.specs.trusted.State.{Terms, Frame, State, Part, Way, Next, To, Raise, Back, Flow, Goes, Catch, Stop, Call, End, instruction_in, instruction_at}
use Rattle.dj_model.specs.trusted.Arrays.{passes_limit}
use Rattle.dj_model.specs.trusted.Effects.{used_class}
use Rattle.dj_model.specs.trusted.Charging.{Charged, Fine, Over}
use Rattle.dj_model.specs.Charging.{charge_all}
use Rattle.dj_model.specs.trusted.Initialisation.{most_frames, Initialised, Ready, Waits, Fails, then_ready, constants_of, mark_all, not_initialised, initialiser_frames, with_frames, initialise, new_frame}
use Rattle.dj_model.specs.trusted.Step.{StepAnswer, Went, Ended, IllFormed, catches, handler_in, handler_of, caught, at_handler, unwound, throw_new, new_exception, new_stop, stop_from, throw_stop_or, called, returned, settle_way, settle, part_of, with_part, frame_with, prepared, done, act, step_of, step}
use Rattle.dj_model.specs.Runs as run
use Rattle.dj_model.specs.trusted.Runs.{input_array, input_heap, start_state, begun, begin, Ran, Going, Finished, NoStep, one_more, then_steps, steps, from_start, report_of, plain_run}
use Rattle.dj_model.specs.Runs.{Run, Stuck, amounts, with_paid, top_is_paid, paid_run, pay, answer_run, metered_terms, turn, then_turn, turns, metered_run}
use Rattle.dj_model.specs.trusted.Kinds.{Signature, Kinds, signature_with, call_signature, with_receiver, signature_of}
use Rattle.dj_model.specs.trusted.Shape.{after, covers}
use Rattle.dj_model.specs.Sound.{is_linked, IsSound}
use Rattle.dj_model.specs.Standing.{LocalsHave, Keeps, with_given, CallFits, IsSoundFlow, IsStarvedAt, AsksNothing, IsAt, IsReady, result_of, IsCaller, AreCallers, AreStanding, AnswerStands, RunStands, IsEntry, Starves}
use Rattle.dj_model.proofs.MappedNames.{either}
use Rattle.dj_model.proofs.Flows.{either_way}
use Rattle.dj_model.proofs.Frames.{KeepsMore, all_constants_keep}
use Rattle.dj_model.proofs.SoundCalls.{kinds_kept}
use Rattle.dj_model.proofs.SoundFrames.{all_at, contained, code_is, method_is, is_held, left_there, goes_next, jumps_to, caught_at, starts_ready, initialiser_ready}

-- ---- the kind of a method's result

signature_result : (result : Option Kind) (ps : Option (List Kind)) (sig : Signature) → signature_with result ps ≡ Some sig → sig.result ≡ result
signature_result result None sig e = absurd cc
signature_result result (Some ps) sig e = let same : record { parameters = ps; result = result } ≡ sig = cc in sym (ap (λ (s : Signature). s.result) same)

received_result : (static : Bool) (s : Option Signature) (sig : Signature) → with_receiver static s ≡ Some sig → sig.result ≡ result_of s
received_result static None sig e = absurd cc
received_result true (Some inner) sig e = let same : inner ≡ sig = cc in sym (ap (λ (s : Signature). s.result) same)
received_result false (Some inner) sig e = let same : record inner { parameters = kinds.Ref ∷ inner.parameters } ≡ sig = cc in sym (ap (λ (s : Signature). s.result) same)

described_result : (static : Bool) (desc : Desc) (sig : Signature) → signature_of static desc ≡ Some sig → sig.result ≡ result_of (call_signature desc)
described_result static desc sig e = received_result static (call_signature desc) sig e

-- ---- the range that catches

record IsCaught (f : Frame Declared) (ranges : List Range) (handler : ℕ) : Type 0 where
  range : Range
  there : Contains ranges range
  covered : covers range f.number ≡ true
  is : range.handler ≡ handler

range_in : (program : Program) (prefix : Prefix) (class : Ty) (f : Frame Declared) (ranges : List Range) (handler : ℕ) → handler_in program prefix class f.number ranges ≡ Some handler
    → IsCaught f ranges handler
range_in program prefix class f [] handler e = absurd cc
range_in program prefix class f (range ∷ ranges) handler e =
    elim (either (nat_le range.start f.number && nat_lt f.number range.end && catches program prefix class range.catches)) [
      | inl holds ↦
          let same : Some range.handler ≡ Some handler = rw holds at e in
          let is : range.handler ≡ handler = cc in
          record { range = range; there = (zero, omega arith, refl); covered = three (nat_le range.start f.number) (nat_lt f.number range.end) (catches program prefix class range.catches) holds; is = is }
      | inr other ↦
          let r = range_in program prefix class f ranges handler (rw other at e) in
          record { range = r.range; there = (suc r.there.0, omega (arith, r.there.1), r.there.2); covered = r.covered; is = r.is }
    ] where
      three : (a b c : Bool) → (a && b && c) ≡ true → (a && b) ≡ true
      three true true c e = refl
      three true false c e = absurd cc
      three false b c e = absurd cc

module _ (program : Program) (prefix : Prefix) (is : IsSound program prefix) where
  caller_at : (m : Declared) (f : Frame Declared) → IsCaller program m f → IsAt program f
  caller_at m f (inl (init, ready)) = ready.at
  caller_at m f (inr (plain, waits)) = waits.at

  -- ---- an exception goes up

  handled : (f : Frame Declared) (s : IsAt program f) (class : Ty) (exception : ℕ) (handler : ℕ) → handler_of program prefix class f.number (code_of program f.method) ≡ Some handler
      → IsReady program (caught f exception handler)
  handled f s class exception handler e =
      let in_code : handler_in program prefix class f.number s.code.ranges ≡ Some handler =
      subst (λ (c : Option Code). handler_of program prefix class f.number c ≡ Some handler) (code_is program f.method s.method s.code s.there s.body) e in
      let r = range_in program prefix class f s.code.ranges handler in_code in
      subst (λ (n : ℕ). IsReady program (caught f exception n)) r.is (caught_at program prefix is f s r.range r.there r.covered exception)

  -- the top stands at an instruction, whatever its operands are
  abbrev Stand : List (Frame Declared) → Type 0
  Stand [] = ⊤
  Stand (f ∷ below) = IsAt program f × AreCallers program f.method below

  below_stand : (m : Declared) (below : List (Frame Declared)) → AreCallers program m below → Stand below
  below_stand m [] callers = tt
  below_stand m (g ∷ more) callers = (caller_at m g callers.0, callers.1)

  handler_stands : (t : State) (class : Ty) (exception : ℕ) (f : Frame Declared) (below : List (Frame Declared)) (otherwise : StepAnswer) → Stand (f ∷ below) → AnswerStands program otherwise
      → (handler : Option ℕ) → handler_of program prefix class f.number (code_of program f.method) ≡ handler → AnswerStands program (at_handler prefix t class exception f below handler otherwise)
  handler_stands t class exception f below otherwise k o (Some handler) some = (handled f k.0 class exception handler some, k.1)
  handler_stands t class exception f below otherwise k o None none = either_way (AnswerStands program) (is_initialiser f.method) _ _ tt o

  unwound_stands : (t : State) (class : Ty) (exception : ℕ) (frames : List (Frame Declared)) → Stand frames → AnswerStands program (unwound program prefix t class exception frames)
  unfolding unwound
  unwound_stands t class exception [] k = tt
  unwound_stands t class exception (f ∷ below) k =
      handler_stands t class exception f below _ k (unwound_stands t class exception below (below_stand f.method below k.1)) (handler_of program prefix class f.number (code_of program f.method)) refl

  throw_new_stands : (terms : Terms) (t : State) (object : Object Ty) → Stand t.frames → AnswerStands program (throw_new program prefix terms t object)
  throw_new_stands terms t object k = either_way (AnswerStands program) (passes_limit terms.limit (t.heap.used + object_size object)) _ _ tt
      (unwound_stands (record t { heap = with_new t.heap object }) _ (next_number t.heap) t.frames k)

  stop_stands : (terms : Terms) (t : State) (r : Option ℕ) → Stand t.frames → AnswerStands program (throw_stop_or program prefix terms t r)
  stop_stands terms t None k = throw_new_stands terms t new_stop k
  stop_stands terms t (Some r) k = unwound_stands t _ r t.frames k

  -- ---- what an instruction leaves

  -- the frame at the same instruction, with other operands and local variables of the same kinds
  kept : (f : Frame Declared) (s : IsAt program f) (vs : List (Option Value)) (os : List Value) → Keeps s.code s.before vs → IsAt program (record f { locals = vs; operands = os })
  kept f s vs os k = record {
    method = s.method;
    there = s.there;
    code = s.code;
    body = s.body;
    signature = s.signature;
    described = s.described;
    placed = s.placed;
    map = s.map;
    instruction = s.instruction;
    at = s.at;
    before = s.before;
    state = s.state;
    locals = k.kinds;
    room = k.room;
  }

  not_both : (b : Bool) → IsTrue b → IsFalse b → ⊥
  not_both true t f = absurd cc
  not_both false t f = absurd cc

  call_goes_on : (i : Instruction) → IsTrue (calls i) → ends i ≡ false
  call_goes_on (Invoke mode m) t = refl
  call_goes_on _ t = absurd cc

  -- the caller goes on where a method returns
  returned_stands : (t : State) (f : Frame Declared) (s : IsAt program f) (result : Option Value) (below : List (Frame Declared)) → option_map value_kind result ≡ s.signature.result
      → AreCallers program f.method below → AnswerStands program (returned t f result below)
  returned_stands t f s result [] kind callers = tt
  returned_stands t f s result (caller ∷ below) kind callers = by (is_initialiser f.method) refl callers.0 where
    wanted : option_map value_kind result ≡ result_of (call_signature f.method.desc)
    wanted = kind ∙ (described_result (is_static s.method.flags) s.method.desc s.signature s.described
        ∙ ap (λ (d : Desc). result_of (call_signature d)) (method_is program f.method s.method s.there).desc)

    pushed : (result : Option Value) (expected : Option Kind) (operands : List Value) → option_map value_kind result ≡ expected
        → map value_kind (option_list result ++ operands) ≡ with_given expected (map value_kind operands)
    pushed None None operands e = refl
    pushed None (Some kind) operands e = absurd cc
    pushed (Some v) None operands e = absurd cc
    pushed (Some v) (Some kind) operands e = let same : value_kind v ≡ kind = cc in ap (λ (k : Kind). k ∷ map value_kind operands) same

    by : (b : Bool) → is_initialiser f.method ≡ b → IsCaller program f.method caller
        → IsReady program (if b then caller else record caller { number = caller.number + 1; operands = option_list result ++ caller.operands; paid = false }) × AreCallers program (if b then caller else record caller { number = caller.number + 1; operands = option_list result ++ caller.operands; paid = false }).method below
    by true e (inl (init, ready)) = (ready, callers.1)
    by true e (inr (plain, waits)) = absurd (not_both (is_initialiser f.method) e plain)
    by false e (inl (init, ready)) = absurd (not_both (is_initialiser f.method) init e)
    by false e (inr (plain, waits)) = (
      goes_next program prefix is caller waits.at waits.left waits.found (call_goes_on waits.at.instruction waits.calls) caller.locals (option_list result ++ caller.operands)
          (record {
            locals = subst (LocalsHave caller.locals) waits.locals waits.at.locals;
            operands = pushed result (result_of (call_signature f.method.desc)) caller.operands wanted ∙ waits.gives;
          }) waits.at.room,
      callers.1,
    )

  called_stands : (t : State) (m : Declared) (args : List Value) (f : Frame Declared) (below : List (Frame Declared)) → t.frames ≡ f ∷ below
      → IsReady program (new_frame program m args) → IsCaller program m f → AreCallers program f.method below → AnswerStands program (called program t m args)
  called_stands t m args f below frames new caller callers = either_way (AnswerStands program) (nat_le most_frames (length t.frames)) _ _ tt
      (new, subst (AreCallers program m) (sym frames) (caller, callers))

  -- what follows the effect of an instruction
  module _ (terms : Terms) (f : Frame Declared) (s : IsAt program f) (below : List (Frame Declared)) (callers : AreCallers program f.method below) (left : Kinds)
      (known : after s.signature s.code s.instruction s.before ≡ Some left) where
    way_stands : (t : State) (x : Part) (way : Way) → IsSoundFlow program s.signature s.code s.instruction s.before left x (Goes way)
        → AnswerStands program (settle_way program prefix terms t (frame_with f x) below way)
    way_stands t x Next flow = (goes_next program prefix is f s left known flow.1 x.locals x.operands flow.0.kinds flow.0.room, callers)
    way_stands t x (To target) flow = (jumps_to program prefix is f s left known target flow.1 x.locals x.operands flow.0.kinds flow.0.room, callers)
    way_stands t x (Raise raised) flow = throw_new_stands terms (record t { frames = frame_with f x ∷ below }) (new_exception prefix raised) (kept f s x.locals x.operands flow, callers)
    way_stands t x (Back result) flow = returned_like below callers where
      returned_like : (below : List (Frame Declared)) → AreCallers program f.method below → AnswerStands program (returned t (frame_with f x) result below)
      returned_like [] k = tt
      returned_like (caller ∷ more) k = returned_stands t f s result (caller ∷ more) flow.1 k

    settle_stands : (t : State) (x : Part) (flow : Flow) → IsSoundFlow program s.signature s.code s.instruction s.before left x flow
        → AnswerStands program (settle program prefix terms t (frame_with f x) below flow)
    unfolding settle kept
    settle_stands t x (Goes way) flow = way_stands t x way flow
    settle_stands t x (Catch exception) flow =
        unwound_stands (record t { frames = frame_with f x ∷ below }) _ exception (frame_with f x ∷ below) (kept f s x.locals x.operands flow, callers)
    settle_stands t x Stop flow = stop_stands terms (record t { frames = frame_with f x ∷ below }) (stop_from prefix 1 t.heap.objects) (kept f s x.locals x.operands flow, callers)
    settle_stands t x (Call m arguments) flow = called_stands (record t { frames = frame_with f x ∷ below }) m arguments (frame_with f x) below refl
        (starts_ready program prefix is m flow.method flow.callee flow.signature flow.at flow.body flow.described arguments flow.takes)
        (inr (
          flow.no_initialiser,
          record {
            at = kept f s x.locals x.operands flow.keeps;
            calls = flow.calls;
            left = left;
            found = known;
            locals = flow.locals;
            gives = subst (λ (r : Option Kind). with_given r (map value_kind x.operands) ≡ left.stack) (result flow) flow.gives;
          },
        )) callers where
          result : (c : CallFits program s.code s.instruction s.before left x m arguments) → c.signature.result ≡ result_of (call_signature m.desc)
          result c = described_result (is_static c.method.flags) c.method.desc c.signature c.described
              ∙ ap (λ (d : Desc). result_of (call_signature d)) (method_is program m c.method c.at).desc
    settle_stands t x (End outcome) flow = tt

  -- ---- initialisers

  abbrev InitStands : State → Initialised → Type 0
  InitStands t (Ready next) = next.frames ≡ t.frames
  InitStands t (Waits next) = AreStanding program next.frames
  InitStands t (Fails outcome next) = ⊤

  above_stand : (class : Name) (frames : List (Frame Declared)) → AreStanding program frames → IsReady program (new_frame program (initialiser_of class) [])
      → AreStanding program (new_frame program (initialiser_of class) [] ∷ frames)
  above_stand class [] k new = absurd k
  above_stand class (g ∷ below) k new = (new, (inl (refl, k.0), k.1))

  class_above : (class : Name) (frames : List (Frame Declared)) → AreStanding program frames → (b : Bool) → has_initialiser program class ≡ b
      → AreStanding program ((if b then new_frame program (initialiser_of class) [] ∷ [] else []) ++ frames)
  class_above class frames k true e = above_stand class frames k (initialiser_ready program prefix is class e)
  class_above class frames k false e = k

  frames_above : (classes : List Name) (frames : List (Frame Declared)) → AreStanding program frames → AreStanding program (initialiser_frames program classes ++ frames)
  frames_above [] frames k = k
  frames_above (class ∷ classes) frames k =
      subst (AreStanding program) (sym (append_assoc (if has_initialiser program class then new_frame program (initialiser_of class) [] ∷ [] else []) (initialiser_frames program classes) frames))
      (class_above class (initialiser_frames program classes ++ frames) (frames_above classes frames k) (has_initialiser program class) refl)

  with_frames_stand : (t : State) (frames : List (Frame Declared)) → AreStanding program (frames ++ t.frames) → InitStands t (with_frames t frames)
  with_frames_stand t [] k = refl
  with_frames_stand t (f ∷ frames) k = either_way (InitStands t) (nat_lt most_frames (length (f ∷ frames) + length t.frames)) _ _ tt k

  initialise_stands : (terms : Terms) (class : Name) (t : State) → AreStanding program t.frames → InitStands t (initialise program prefix terms class t)
  unfolding initialise KeepsMore
  initialise_stands terms class t k = go (constants_of program prefix terms classes marked) (all_constants_keep program prefix terms classes marked) where
    classes : List Name
    classes = reverse (not_initialised program t.initialised (chain program class))

    marked : State
    marked = record t { initialised = mark_all program classes t.initialised }

    go : (i : Initialised) → KeepsMore marked i → InitStands t (then_ready (λ next. with_frames next (initialiser_frames program classes)) i)
    go (Ready next) e = moved (with_frames next (initialiser_frames program classes)) (with_frames_stand next (initialiser_frames program classes)
        (subst (λ (fs : List (Frame Declared)). AreStanding program (initialiser_frames program classes ++ fs)) (sym e.0) (frames_above classes t.frames k))) where
          moved : (i : Initialised) → InitStands next i → InitStands t i
          moved (Ready last) s = s ∙ e.0
          moved (Waits last) s = s
          moved (Fails outcome last) s = tt
    go (Waits next) e = absurd e
    go (Fails outcome next) e = tt

  prepared_stands : (terms : Terms) (used : Option Name) (t : State) → AreStanding program t.frames → InitStands t (prepared program prefix terms used t)
  prepared_stands terms None t k = refl
  prepared_stands terms (Some class) t k = initialise_stands terms class t k

  -- ---- a step

  found_at : (f : Frame Declared) (s : IsAt program f) → instruction_at program f ≡ Some s.instruction
  found_at f s = subst (λ (c : Option Code). instruction_in c f.number ≡ Some s.instruction) (sym (code_is program f.method s.method s.code s.there s.body)) s.at

  linked_at : (f : Frame Declared) (s : IsAt program f) → IsTrue (is_linked program prefix s.instruction)
  linked_at f s = all_at (is_linked program prefix) s.code.instructions s.instruction (is_held program prefix is f s).linked (contained s.code.instructions f.number s.instruction s.at)

  module _ (terms : Terms) (t : State) (f : Frame Declared) (below : List (Frame Declared)) (frames : t.frames ≡ f ∷ below) (ready : IsReady program f) (callers : AreCallers program f.method below) where
    done_stands : (r : Initialised) → prepared program prefix terms (used_class program prefix ready.at.instruction) t ≡ r → InitStands t r
        → AnswerStands program (done program prefix terms f below ready.at.instruction r) ⊎ IsStarvedAt program prefix terms t
    done_stands (Waits next) e k = inl k
    done_stands (Fails outcome next) e k = inl tt
    done_stands (Ready next) e k =
        let left = left_there program prefix is f ready.at in
        elim (kinds_kept program prefix terms f.method.class ready.at.signature ready.at.code ready.at.instruction ready.at.before left.0 (part_of f next) is
        (linked_at f ready.at) (record { locals = ready.at.locals; operands = ready.operands }) ready.at.room left.1) [
          | inl d ↦ inl (rw d.has (settle_stands terms f ready.at below callers left.0 left.1 (with_part next d.does.part) d.does.part d.does.flow d.sound))
          | inr starved ↦ inr (record {
            top = f;
            below = below;
            frames = frames;
            instruction = ready.at.instruction;
            at = found_at f ready.at;
            ready = next;
            prepared = e;
            starved = starved;
          })
        ]

    act_stands : AreStanding program t.frames → AnswerStands program (act program prefix terms t f below (instruction_at program f)) ⊎ IsStarvedAt program prefix terms t
    act_stands k = subst (λ (i : Option Instruction). AnswerStands program (act program prefix terms t f below i) ⊎ IsStarvedAt program prefix terms t) (sym (found_at f ready.at))
        (done_stands (prepared program prefix terms (used_class program prefix ready.at.instruction) t) refl (prepared_stands terms (used_class program prefix ready.at.instruction) t k))

  pub step_stands : (terms : Terms) (t : State) → AreStanding program t.frames → AnswerStands program (step program prefix terms t) ⊎ IsStarvedAt program prefix terms t
  unfolding step
  step_stands terms t k = by t.frames refl k where
    by : (frames : List (Frame Declared)) → t.frames ≡ frames → AreStanding program frames → AnswerStands program (step_of program prefix terms t frames) ⊎ IsStarvedAt program prefix terms t
    by [] e s = absurd s
    by (f ∷ below) e s = act_stands terms t f below e s.0 s.1 k

  -- ---- the start

  begun_stands : (t : State) (i : Initialised) → AreStanding program t.frames → InitStands t i → AnswerStands program (begun i)
  begun_stands t (Ready next) k s = subst (AreStanding program) (sym s) k
  begun_stands t (Waits next) k s = s
  begun_stands t (Fails outcome next) k s = tt

  pub begin_stands : (terms : Terms) (entry : Declared) (input : List ℕ) (answers : List HostAnswer) → IsEntry program entry
      → AnswerStands program (begin program prefix terms entry input answers)
  unfolding begin
  begin_stands terms entry input answers e =
      let s = start_state program entry (input_heap input) answers in
      let k : AreStanding program s.frames = (starts_ready program prefix is entry e.method e.code e.signature e.there e.body e.described (values.Ref 1 ∷ []) (sym e.takes), tt) in
      either_way (AnswerStands program) (passes_limit terms.limit (object_size (input_array input))) _ _ tt
      (begun_stands s (initialise program prefix terms entry.class s) k (initialise_stands terms entry.class s k))

  -- ---- plain runs

  abbrev RanStands : Ran → Type 0
  RanStands (Going t) = AreStanding program t.frames
  RanStands (Finished outcome t n) = ⊤
  RanStands NoStep = ⊥

  record StarvesFrom (terms : Terms) (t : State) (most : ℕ) : Type 0 where
    count : ℕ
    within : count < most
    state : State
    reached : steps program prefix terms count t ≡ Going state
    starved : IsStarvedAt program prefix terms state

  steps_stand : (terms : Terms) (n : ℕ) (t : State) → AreStanding program t.frames → RanStands (steps program prefix terms n t) ⊎ StarvesFrom terms t n
  unfolding steps
  steps_stand terms zero t k = inl k
  steps_stand terms (suc n) t k = elim (step_stands terms t k) [
    | inl stands ↦ further (step program prefix terms t) refl stands (steps_stand terms n)
    | inr starved ↦ inr (record { count = 0; within = omega arith; state = t; reached = refl; starved = starved })
  ] where
    one_more_stands : (r : Ran) → RanStands r → RanStands (one_more r)
    one_more_stands (Going u) s = s
    one_more_stands (Finished outcome u m) s = tt
    one_more_stands NoStep s = s

    further : (a : StepAnswer) → step program prefix terms t ≡ a → AnswerStands program a
        → ((u : State) → AreStanding program u.frames → RanStands (steps program prefix terms n u) ⊎ StarvesFrom terms u n)
        → RanStands (then_steps (steps program prefix terms n) a) ⊎ StarvesFrom terms t (suc n)
    further IllFormed e s each = absurd s
    further (Ended outcome u) e s each = inl tt
    further (Went u) e s each = elim (each u s) [
      | inl more ↦ inl (one_more_stands (steps program prefix terms n u) more)
      | inr r ↦ let lt = r.within in inr (record {
        count = suc r.count;
        within = omega (arith, lt);
        state = r.state;
        reached = ap (then_steps (steps program prefix terms r.count)) e ∙ ap one_more r.reached;
        starved = r.starved;
      })
    ]

  pub plain_stands : (terms : Terms) (entry : Declared) (input : List ℕ) (answers : List HostAnswer) (most : ℕ) → IsEntry program entry
      → IsSome (plain_run program prefix terms entry input answers most) ⊎ Starves program prefix terms entry input answers most
  unfolding plain_run
  plain_stands terms entry input answers most e = by (begin program prefix terms entry input answers) refl (begin_stands terms entry input answers e) where
    reported : (r : Ran) → RanStands r → IsSome (report_of answers most r)
    reported (Going t) s = refl
    reported (Finished outcome t n) s = refl
    reported NoStep s = absurd s

    by : (a : StepAnswer) → begin program prefix terms entry input answers ≡ a → AnswerStands program a
        → IsSome (report_of answers most (from_start (steps program prefix terms most) a)) ⊎ Starves program prefix terms entry input answers most
    by IllFormed is s = absurd s
    by (Ended outcome t) is s = inl refl
    by (Went t) is s = elim (steps_stand terms most t s) [
      | inl r ↦ inl (reported (steps program prefix terms most t) r)
      | inr r ↦ inr (record {
        count = r.count;
        within = r.within;
        state = r.state;
        reached = ap (from_start (steps program prefix terms r.count)) is ∙ r.reached;
        starved = r.starved;
      })
    ]

-- ---- programs that ask nothing

pub never_starved : (program : Program) (prefix : Prefix) (terms : Terms) (t : State) → AsksNothing program → IsStarvedAt program prefix terms t → ⊥
never_starved program prefix terms t quiet s =
    let none : None ≡ Some s.starved.question = sym (quiet s.starved.class s.starved.method s.starved.id s.starved.there.0 s.starved.there.1 s.starved.body s.starved.arguments) ∙ s.starved.asks in
    absurd cc

-- ---- metered runs

paid_ready : (program : Program) (f : Frame Declared) → IsReady program f → IsReady program (record f { paid = true })
paid_ready program f r = record {
  at = record {
    method = r.at.method;
    there = r.at.there;
    code = r.at.code;
    body = r.at.body;
    signature = r.at.signature;
    described = r.at.described;
    placed = r.at.placed;
    map = r.at.map;
    instruction = r.at.instruction;
    at = r.at.at;
    before = r.at.before;
    state = r.at.state;
    locals = r.at.locals;
    room = r.at.room;
  };
  operands = r.operands;
}

paid_stand : (program : Program) (frames : List (Frame Declared)) → AreStanding program frames → AreStanding program (with_paid frames)
paid_stand program [] k = k
paid_stand program (f ∷ below) k = (paid_ready program f k.0, k.1)

pay_stands : (program : Program) (t : State) (c : Charged) → AreStanding program t.frames → RunStands program (paid_run t c)
pay_stands program t (Fine account) k = paid_stand program t.frames k
pay_stands program t (Over charge account) k = tt

answer_stands : (program : Program) (a : StepAnswer) → AnswerStands program a → RunStands program (answer_run a)
answer_stands program (Went t) k = k
answer_stands program (Ended outcome t) k = tt
answer_stands program IllFormed k = k

pub turn_stands : (program : Program) → IsSound program [] → (most : Thresholds) (t : State) → AreStanding program t.frames
    → RunStands program (turn program most t) ⊎ IsStarvedAt program [] (metered_terms most) t
unfolding turn
turn_stands program is most t k =
    either_way (λ r. RunStands program r ⊎ IsStarvedAt program [] (metered_terms most) t) (top_is_paid t.frames) _ _
    (elim (step_stands program [] is (metered_terms most) t k) [
      | inl s ↦ inl (answer_stands program (step program [] (metered_terms most) t) s)
      | inr starved ↦ inr starved
    ])
    (inl (pay_stands program t (charge_all most (amounts program [] t) t.account) k))

then_stands : (program : Program) (more : State → Run) → ((t : State) → AreStanding program t.frames → RunStands program (more t)) → (r : Run) → RunStands program r
    → RunStands program (then_turn more r)
then_stands program more each (run.Underway t) k = each t k
then_stands program more each (run.RunEnds outcome costs) k = tt
then_stands program more each Stuck k = k

turns_stand : (program : Program) → IsSound program [] → AsksNothing program → (most : Thresholds) (n : ℕ) (t : State) → AreStanding program t.frames
    → RunStands program (turns program most n t)
unfolding turns
turns_stand program is quiet most zero t k = k
turns_stand program is quiet most (suc n) t k = then_stands program (turns program most n) (turns_stand program is quiet most n) (turn program most t)
    (elim (turn_stands program is most t k) [ inl s ↦ s | inr starved ↦ absurd (never_starved program [] (metered_terms most) t quiet starved) ])

pub metered_stands : (program : Program) → IsSound program [] → AsksNothing program → (entry : Declared) (input : List ℕ) (most : Thresholds) (n : ℕ) → IsEntry program entry
    → RunStands program (metered_run program entry input most n)
unfolding metered_run
metered_stands program is quiet entry input most n e =
    then_stands program (turns program most n) (turns_stand program is quiet most n) (answer_run (begin program [] (metered_terms most) entry input []))
    (answer_stands program (begin program [] (metered_terms most) entry input []) (begin_stands program [] is (metered_terms most) entry input [] e))
