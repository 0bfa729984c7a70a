-- After an instruction of a sound program a caller has room for what is returned to it, and what is thrown is an object of a class; and where the run goes on it needs no memory.
use Rattle.std.proofs.Common.{◌≡◌, ◌<◌, ◌+◌, ◌^◌, ℕ, Bool, true, false, List, [], ◌∷◌, length, Option, Some, None, refl, sym, ap, subst, ◌∙◌, inl, inr, arith, IsTrue, IsFalse}
use Rattle.std.specs.Prelude.{slice_get, IfSome}
use Rattle.std.specs.Option.{option_map}
use Rattle.std.proofs.lemmas.Option.{none-some, same_Some, slice_get_within}
use Rattle.dj_names.specs.declared.descriptor.Kind.{Kind}
use Rattle.dj_names.specs.declared.descriptor.Ty.{Ty}
use Rattle.dj_names.specs.declared.run.Outcome.TheVariants as outcomes
use Rattle.dj_names.specs.declared.run.Value.{Value}
use Rattle.dj_names.specs.trusted.Heaps.{Object, class_of}
use Rattle.dj_names.specs.Heaps.{object_map}
use Rattle.dj_names.specs.trusted.Types.{Name}
use Rattle.dj_names.specs.trusted.Values.{value_kind}
use Rattle.dj_edge.specs.declared.host.HostAnswer.{HostAnswer}
use Rattle.dj_model.specs.trusted.Types.{Declared}
use Rattle.dj_model.specs.trusted.Instructions.{Instruction}
use Rattle.dj_model.specs.Instructions.{calls}
use Rattle.dj_model.specs.trusted.Program.{Program, is_initialiser}
use Rattle.dj_model.specs.trusted.State as model
use Rattle.dj_model.specs.trusted.State.{Terms, Uncounted, State, Account, Frame, Part, Flow, Goes, Catch, End, Effect}
use Rattle.dj_model.specs.trusted.Charging.{new_account}
use Rattle.dj_model.specs.trusted.Effects as effects
use Rattle.dj_model.specs.trusted.Kinds.{call_signature}
use Rattle.dj_model.specs.trusted.Performing.{class_in}
use Rattle.dj_model.specs.trusted.Step.{Went, frame_with, part_of, settle, settled, with_part}
use Rattle.dj_model.specs.Sound.{IsSound}
use Rattle.dj_model.specs.Standing.{AreCallers, AreStanding, IsAt, IsCaller, IsSoundFlow, IsWaiting, result_of}
use Rattle.dj_library_types.specs.Numbered as numbered
use Rattle.dj_heap.specs.Heaps.{LimitedHeap, object_in}
use Rattle.dj_stack.specs.Frames.{StackFrame, SameFrames, top_locals, top_operands}
use Rattle.dj_effects.specs.Does.{way_view}
use Rattle.dj_effects.specs.declared.way.Way.{Way}
use Rattle.dj_effects.specs.declared.way.Way.TheVariants as ways
use Rattle.dj_natives.specs.Calls.{typed_heap}
use Rattle.dj_natives.specs.Known.{AreKnown}
use Rattle.dj_natives.proofs.Performed.{known_at}
use Rattle.dj_natives.proofs.SeenFacts.{object_alike}
use Rattle.dj_numbering.specs.Typed.{types_of}
use Rattle.dj_image.specs.Imaged.{Imaged, program_of, typed_of}
use Rattle.dj_current_method.specs.Activations.{AreActivations, declared_at, frame_seen, frames_seen}
use Rattle.dj_current_method.proofs.Calls.{waiting_room}
use Rattle.dj_unwinding.specs.Returns.{HasRoomBelow}
use Rattle.dj_unwinding.specs.Resuming.{HasRoom}
use Rattle.dj_unwinding.specs.Short.{AreShort}
use Rattle.dj_settling.specs.Frugal.{IsFrugal, IsFrugalReturn, IsFrugalThrow}
use Rattle.dj_settling.specs.Settling.{HasRoomFor, IsThrown, seen_in, top_settled}
use Rattle.dj_settling.specs.Reported.{On, reported_of}
use Rattle.dj_settling.proofs.ThrowLaws.{class_there}
use Rattle.dj_settling.proofs.WayLaws.{settled_alike}
use Rattle.dj_image_effects.specs.declared.acted.Acted.{Acted}
use Rattle.dj_image_effects.specs.declared.acted.Acted.TheVariants as acts
use Rattle.dj_image_effects.specs.Acting.{Acts, IsActed, Machine, acted_operands, flow_reported, machine, part_with}
use Rattle.dj_initialisation.specs.Store.{Store}
use Rattle.dj_image_step.specs.Doing.{next_of}
use Rattle.dj_image_step.specs.Frugal.{IsFrugalActed, IsFrugalRun, IsReadyFor}
use Rattle.dj_image_step.specs.Memory.{NeedsNoMemory, is_raise, makes, raises}
use Rattle.dj_image_step.specs.Running.{IsRunning, Running, account_of, state_of, terms_of}
use Rattle.dj_image_step.proofs.ActedLaws.{acts_of, left_alike}
use Rattle.dj_image_step.proofs.SoundFlows.{IsThrowable, effect_throwable, effect_went}
use Rattle.dj_image_step.proofs.SoundNext.{IsSoundNext, makes_no_call, short_at_frame, sound_next, sound_reported}
use Rattle.dj_image_step.proofs.Turned.{on_went}

-- ---- objects that are thrown

-- an object of a class, in the model, is one over the image
pub thrown_there : (imaged : Imaged) (h : LimitedHeap) (r : ℕ) → AreKnown (types_of (typed_of imaged)) h → IsThrowable (typed_heap (types_of (typed_of imaged)) h) (Catch r) → IsThrown imaged h r
thrown_there imaged h r known plain = by (object_in h r) refl where
  types : List Ty
  types = types_of (typed_of imaged)

  by : (o : Option (Object ℕ)) → object_in h r ≡ o → IsThrown imaged h r
  by None is =
      let none : (class_in (option_map (object_map (numbered.type_at types)) None)).dims ≡ 0 =
      ap (λ (o : Option (Object ℕ)). (class_in (option_map (object_map (numbered.type_at types)) o)).dims) (sym is) ∙ (ap (λ (o : Option (Object Ty)). (class_in o).dims) (sym (object_alike types h r)) ∙ plain) in
      absurd (let no : 1 ≡ 0 = none in omega (arith, no))
  by (Some object) is =
      let there = class_there types h r (class_of object) (ap (option_map class_of) is) in
      record {
        object = object;
        there = is;
        class = record { within = (known_at types h r object is known).class; plain = ap (λ (ty : Ty). ty.dims) (sym there) ∙ plain };
      }

-- ---- callers

-- a caller has room for what is returned to it
module _ (imaged : Imaged) (is : IsSound (program_of imaged) imaged.prefix) where
  abbrev P : Program
  P = program_of imaged

  not_both : (b : Bool) → IsTrue b → IsFalse b → ⊥
  not_both true t f = absurd cc
  not_both false t f = absurd cc

  room_for : (method : Declared) (caller : StackFrame) (below : List StackFrame) (value : Option Value) → AreActivations imaged (caller ∷ below) → IsCaller P method (frame_seen P caller)
      → option_map value_kind value ≡ result_of (call_signature method.desc) → is_initialiser method ≡ false → HasRoom (caller ∷ below) value
  room_for method caller below None stand calling kind plain = tt
  room_for method caller below (Some v) stand (inl (init, ready)) kind plain = absurd (not_both (is_initialiser method) init plain)
  room_for method caller below (Some v) stand (inr (other, waits)) kind plain =
      waiting_room imaged is.formed caller stand.0 (value_kind v) (subst (λ (k : Option Kind). IsWaiting P k (frame_seen P caller)) (sym kind) waits)

  caller_at : (method : Declared) (f : Frame Declared) → IsCaller P method f → IsAt P f
  caller_at method f (inl (init, ready)) = ready.at
  caller_at method f (inr (other, waits)) = waits.at

  -- and the number after its instruction has 32 bits
  number_fits : AreShort imaged → (method : Declared) (caller : StackFrame) (below : List StackFrame) → AreActivations imaged (caller ∷ below) → IsCaller P method (frame_seen P caller)
      → caller.number + 1 < 2 ^ 32
  number_fits short method caller below stand calling =
      let at = caller_at method (frame_seen P caller) calling in
      let within = slice_get_within at.code.instructions caller.number at.instruction at.at in
      let fits = (short_at_frame imaged is short caller stand.0 at).instructions in
      omega (arith, within, fits)

  room_below : (f : StackFrame) (below new : List StackFrame) (value : Option Value) → SameFrames (f ∷ below) new → AreActivations imaged below → AreCallers P (declared_at P f.method) (frames_seen P below)
      → option_map value_kind value ≡ result_of (call_signature (declared_at P f.method).desc) → HasRoomBelow P new value
  room_below f below [] value same stand callers kind = tt
  room_below f below (g ∷ []) value same stand callers kind = tt
  room_below f [] (g ∷ (caller ∷ rest)) value same stand callers kind = absurd (let count = same.count in omega (arith, count))
  room_below f (d ∷ below) (g ∷ (caller ∷ rest)) value same stand callers kind = λ plain.
      let method : declared_at P g.method ≡ declared_at P f.method = ap (declared_at P) same.method in
      let room = room_for (declared_at P f.method) d below value stand callers.0 kind (ap is_initialiser (sym method) ∙ plain) in
      subst (λ (frames : List StackFrame). HasRoom frames value) (sym same.below) room

  return_fits : AreShort imaged → (f : StackFrame) (below new : List StackFrame) → SameFrames (f ∷ below) new → (0 < length below) → AreActivations imaged below
      → AreCallers P (declared_at P f.method) (frames_seen P below) → IsFrugalReturn new
  return_fits short f [] new same some stand callers = absurd (omega (arith, some))
  return_fits short f (d ∷ below) [] same some stand callers = absurd (let count = same.count in omega (arith, count))
  return_fits short f (d ∷ below) (g ∷ rest) same some stand callers =
      subst (λ (frames : List StackFrame). IsFrugalReturn (g ∷ frames)) (sym same.below) (number_fits short (declared_at P f.method) d below stand callers.0)

-- ---- what is left is fit for what follows

module _ (imaged : Imaged) (is : IsSound (program_of imaged) imaged.prefix) (f : StackFrame) (below : List StackFrame) (i : Instruction) (st : Store) (m : Machine)
    (stand : AreActivations imaged (f ∷ below)) (standing : AreStanding (program_of imaged) (frames_seen (program_of imaged) (f ∷ below)))
    (at : next_of imaged (frames_seen (program_of imaged) (f ∷ below)) ≡ Some i) where
  abbrev Q : Program
  Q = program_of imaged

  abbrev next : IsSoundNext imaged (f ∷ below) i
  next = sound_next imaged is (f ∷ below) i stand standing at

  -- what the effect leaves
  abbrev left : Acted → Account → List HostAnswer → Part
  left acted account answers = part_with imaged m (acted_operands (f ∷ below) m.frames acted) account answers

  abbrev begun : Account → List HostAnswer → Part
  begun account answers = part_with imaged (machine (f ∷ below) st) f.operands account answers

  does : (terms : Terms) (own : Name) (account : Account) (answers : List HostAnswer) (acted : Acted) (flow : Flow) → terms.limit ≡ Some st.heap.limit → flow_reported acted ≡ Some flow
      → Acts imaged i (machine (f ∷ below) st) m acted
      → effects.effect Q imaged.prefix terms own i (begun account answers) ≡ Some (record { part = left acted account answers; flow = flow })
  does terms own account answers acted flow limit e a =
      a.effect terms own account answers limit ∙ ap (option_map (λ (x : Flow). record { part = left acted account answers; flow = x })) e

  abbrev plain : Terms
  plain = record { limit = Some st.heap.limit; counting = Uncounted }

  sound : (acted : Acted) (flow : Flow) → flow_reported acted ≡ Some flow → Acts imaged i (machine (f ∷ below) st) m acted
      → IsSoundFlow Q next.signature next.code i next.before next.left (left acted new_account []) flow
  sound acted flow e a =
      sound_reported imaged is (f ∷ below) i next plain [] (begun new_account []) refl refl (record { part = left acted new_account []; flow = flow }) (does plain [] new_account [] acted flow refl e a)

  throwable : (acted : Acted) (flow : Flow) → flow_reported acted ≡ Some flow → Acts imaged i (machine (f ∷ below) st) m acted → IsThrowable (typed_heap (types_of (typed_of imaged)) m.store.heap) flow
  throwable acted flow e a =
      subst (λ (o : Option Effect). IfSome o (λ (x : Effect). IsThrowable x.part.heap x.flow)) (does plain [] new_account [] acted flow refl e a)
      (effect_throwable Q imaged.prefix plain [] i (begun new_account []))

  pub acted_ready : (acted : Acted) → IsActed imaged i (machine (f ∷ below) st) m acted → AreKnown (types_of (typed_of imaged)) m.store.heap → IsReadyFor imaged m.store.heap m.frames acted
  acted_ready (acts.Goes ways.Next) a known = tt
  acted_ready (acts.Goes (ways.To number)) a known = tt
  acted_ready (acts.Goes (ways.Raise raised)) a known = tt
  acted_ready (acts.Goes (ways.Back value)) a known =
      room_below imaged is f below m.frames value a.frames stand.1 standing.1 ((sound (acts.Goes (ways.Back value)) _ refl a).1 ∙ sym next.result)
  acted_ready (acts.Catch exception) a known = thrown_there imaged m.store.heap exception known (throwable (acts.Catch exception) _ refl a)
  acted_ready acts.Link a known = tt
  acted_ready (acts.HeapFull used size) a known = tt
  acted_ready acts.Call a known = tt
  acted_ready acts.Stuck a known = tt

  -- ---- and needs no memory where the run goes on

  module _ (short : AreShort imaged) (terms : Terms) (s : State) (on : State) (limit : terms.limit ≡ Some st.heap.limit) (account : Account) (answers : List HostAnswer)
      (own : part_of (frame_seen Q f) s ≡ begun account answers)
      (plain_flow : IsFalse (raises (effects.effect Q imaged.prefix terms (frame_seen Q f).method.class i (part_of (frame_seen Q f) s))))
      (went : settled Q imaged.prefix terms s (frame_seen Q f) (frames_seen Q below) (effects.effect Q imaged.prefix terms (frame_seen Q f).method.class i (part_of (frame_seen Q f) s)) ≡ Went on) where
    reported : (acted : Acted) (flow : Flow) → flow_reported acted ≡ Some flow → Acts imaged i (machine (f ∷ below) st) m acted
        → effects.effect Q imaged.prefix terms (frame_seen Q f).method.class i (part_of (frame_seen Q f) s) ≡ Some (record { part = left acted account answers; flow = flow })
    reported acted flow e a = ap (effects.effect Q imaged.prefix terms (frame_seen Q f).method.class i) own ∙ does terms (frame_seen Q f).method.class account answers acted flow limit e a

    settles : (acted : Acted) (flow : Flow) → flow_reported acted ≡ Some flow → Acts imaged i (machine (f ∷ below) st) m acted
        → settle Q imaged.prefix terms (with_part s (left acted account answers)) (frame_with (frame_seen Q f) (left acted account answers)) (frames_seen Q below) flow ≡ Went on
    settles acted flow e a = sym (ap (λ (o : Option Effect). settled Q imaged.prefix terms s (frame_seen Q f) (frames_seen Q below) o) (reported acted flow e a)) ∙ went

    no_raise : (acted : Acted) (flow : Flow) → flow_reported acted ≡ Some flow → Acts imaged i (machine (f ∷ below) st) m acted → IsFalse (is_raise flow)
    no_raise acted flow e a = subst (λ (o : Option Effect). IsFalse (raises o)) (reported acted flow e a) plain_flow

    -- in the machine's frames
    goes_on : (acted : Acted) (flow : Flow) → flow_reported acted ≡ Some flow → Acts imaged i (machine (f ∷ below) st) m acted
        → top_settled Q imaged.prefix flow terms (record (with_part s (left acted account answers)) { frames = frames_seen Q m.frames }) ≡ Went on
    goes_on acted flow e a =
        let p : Part = left acted account answers in
        on_went (top_settled Q imaged.prefix flow terms (record (with_part s p) { frames = frames_seen Q m.frames })) on
        (sym (left_alike imaged terms (with_part s p) f below m.frames acted flow p e a.frames a.number refl refl)
        ∙ (sym (settled_alike Q imaged.prefix terms (with_part s p) (frame_with (frame_seen Q f) p) (frames_seen Q below) flow)
        ∙ ap reported_of (settles acted flow e a)))

    has_caller : (value : Option Value) → Acts imaged i (machine (f ∷ below) st) m (acts.Goes (ways.Back value)) → 0 < length below
    unfolding settle
    has_caller value a = by below (settles (acts.Goes (ways.Back value)) _ refl a) where
      by : (fs : List StackFrame)
          → settle Q imaged.prefix terms (with_part s (left (acts.Goes (ways.Back value)) account answers)) (frame_with (frame_seen Q f) (left (acts.Goes (ways.Back value)) account answers)) (frames_seen Q fs)
          (Goes (model.Back value)) ≡ Went on → 0 < length fs
      by [] e = absurd cc
      by (g ∷ rest) e = omega arith

    throws : (exception : ℕ) → Acts imaged i (machine (f ∷ below) st) m (acts.Catch exception) → IsFrugalThrow imaged m.store.heap m.frames exception
    unfolding settle
    throws exception a = by m.frames a.frames (goes_on (acts.Catch exception) _ refl a) where
      by : (frames : List StackFrame) → SameFrames (f ∷ below) frames
          → top_settled Q imaged.prefix (Catch exception) terms (record (with_part s (left (acts.Catch exception) account answers)) { frames = frames_seen Q frames }) ≡ Went on
          → IsFrugalThrow imaged m.store.heap frames exception
      by [] same e = absurd (let count = same.count in omega (arith, count))
      by (g ∷ rest) same e = record { short = short; state = with_part s (left (acts.Catch exception) account answers); next = on; goes = e }

    pub acted_frugal : IsFalse (calls i) → (acted : Acted) → IsActed imaged i (machine (f ∷ below) st) m acted → IsFrugalActed imaged m.store.heap m.frames acted
    acted_frugal no_call (acts.Goes ways.Next) a =
        let number = a.number in
        let less = next.goes_on (sound (acts.Goes ways.Next) _ refl a).1 in
        let fits = (next.short short).instructions in
        omega (arith, number, less, fits)
    acted_frugal no_call (acts.Goes (ways.To number)) a =
        let less = next.jumps number (sound (acts.Goes (ways.To number)) _ refl a).1 in
        let fits = (next.short short).instructions in
        omega (arith, less, fits)
    acted_frugal no_call (acts.Goes (ways.Raise raised)) a = absurd (let no = no_raise (acts.Goes (ways.Raise raised)) _ refl a in cc)
    acted_frugal no_call (acts.Goes (ways.Back value)) a = return_fits imaged is short f below m.frames a.frames (has_caller value a) stand.1 standing.1
    acted_frugal no_call (acts.Catch exception) a = throws exception a
    acted_frugal no_call acts.Link a = tt
    acted_frugal no_call (acts.HeapFull used size) a = tt
    acted_frugal no_call acts.Call a = not_both imaged is (calls i) a.0 no_call
    acted_frugal no_call acts.Stuck a =
        absurd (let none = ap (effects.effect Q imaged.prefix terms (frame_seen Q f).method.class i) own ∙ a.effect terms (frame_seen Q f).method.class account answers limit in
        let ill = sym (ap (λ (o : Option Effect). settled Q imaged.prefix terms s (frame_seen Q f) (frames_seen Q below) o) none) ∙ went in cc)
