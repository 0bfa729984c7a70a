-- What follows a call is what the model has.
use Rattle.std.proofs.Common.{◌≡◌, ◌<◌, ℕ, Bool, List, [], ◌∷◌, length, Option, Some, None, refl, sym, ap, subst, ◌∙◌, inl, arith}
use Rattle.std.specs.Prelude.{Result, Ok, Err, IfOk}
use Rattle.std.proofs.lemmas.Option.{none-some, same_Some}
use Rattle.dj_names.specs.declared.descriptor.Desc.{Desc}
use Rattle.dj_names.specs.declared.descriptor.Kind.{Kind}
use Rattle.dj_names.specs.declared.descriptor.Kind.TheVariants as tags
use Rattle.std.specs.declared.alloc.AllocError.{AllocError}
use Rattle.dj_names.specs.declared.native.NativeId.{NativeId}
use Rattle.dj_names.specs.declared.run.Outcome.TheVariants as outcomes
use Rattle.dj_names.specs.declared.run.Raised.{Raised}
use Rattle.dj_names.specs.declared.run.Value.{Value}
use Rattle.dj_edge.specs.declared.host.HostAnswer.{HostAnswer}
use Rattle.dj_names.specs.trusted.Types.{Name, parameters_of}
use Rattle.dj_model.specs.trusted.Types.{Declared, Member, Prefix}
use Rattle.dj_model.specs.trusted.Instructions.{Instruction, Invoke, Mode, Virtual, Special, Static, Interface}
use Rattle.dj_model.specs.trusted.Program.{Program, Body, Method, Native, is_static, method_at}
use Rattle.dj_model.specs.trusted.Kinds.{Signature, call_signature, signature_of, with_receiver}
use Rattle.dj_model.specs.trusted.Members.{kinds_of}
use Rattle.dj_model.specs.NativeKinds.{native_signature}
use Rattle.dj_model.specs.trusted.Shape.{is_static_mode}
use Rattle.dj_model.specs.Sound.{IsSound, IsSoundBody}
use Rattle.dj_model.specs.Standing.{AsksNothing}
use Rattle.dj_model.proofs.SoundFrames.{method_is}
use Rattle.dj_model.specs.trusted.Linking.{declared_of}
use Rattle.dj_model.specs.trusted.State.{Terms, State, Frame, Flow, Raise, Goes, Call, End, Part, Effect, goes}
use Rattle.dj_model.specs.trusted.Effects.{effect}
use Rattle.dj_model.specs.trusted.Step as model
use Rattle.dj_model.specs.trusted.Step.{settle, settled, part_of}
use Rattle.dj_model.specs.trusted.Performing.{native}
use Rattle.dj_heap.specs.Heaps.{LimitedHeap}
use Rattle.dj_stack.specs.Frames.{StackFrame, top_method, top_operands}
use Rattle.dj_natives.specs.Counting.{Counter}
use Rattle.dj_image.specs.Imaged.{Imaged, program_of}
use Rattle.dj_current_method.specs.Activations.{AreActivations, declared_at, frame_seen, frames_seen}
use Rattle.dj_current_method.proofs.Numbers.{declared_there}
use Rattle.dj_initialisation.specs.Store.{Store, store}
use Rattle.dj_initialisation.specs.Preparing.{parts}
use Rattle.dj_resolution.specs.Linked.{class_name}
use Rattle.dj_invocation.specs.declared.answers.Invoked.{Invoked}
use Rattle.dj_invocation.specs.declared.answers.Invoked.TheVariants as invoked
use Rattle.dj_invocation.specs.Invoking.{Site, CallIs, Enters, GoesOn, Invokes, IsTooDeep, left_part, left_values, site, taken_kinds, taken_values}
use Rattle.dj_invocation.specs.Receivers.{typed_heap}
use Rattle.dj_invocation.specs.Operands.{with_operands}
use Rattle.dj_invocation.proofs.Calling.{deep_called, entered_called}
use Rattle.dj_invocation.proofs.SignatureFacts.{kinds_there}
use Rattle.dj_settling.specs.declared.settled.Settled.{Settled}
use Rattle.dj_settling.specs.declared.settled.Settled.TheVariants as settles
use Rattle.dj_settling.specs.Reported.{reported_of}
use Rattle.dj_settling.specs.Settling.{IsStop, Settles, raising, settled_reported}
use Rattle.dj_image_step.specs.Running.{Running, account_of, state_of, terms_of}
use Rattle.dj_image_step.specs.Doing.{IsStill, TurnsBy, doing}
use Rattle.dj_image_step.specs.Natives.{AreGiven, CallsNative, IsQuiet}
use Rattle.dj_image_step.specs.Calling.{IsInvoked}

-- ---- what is left of the frames stands

pub left_stand : (imaged : Imaged) (operands : List Value) (frames : List StackFrame) → AreActivations imaged frames → AreActivations imaged (with_operands operands frames)
left_stand imaged operands [] stand = tt
left_stand imaged operands (f ∷ below) stand =
    (record { found = stand.0.found; there = stand.0.there; code = stand.0.code; runs = stand.0.runs; room = stand.0.room }, stand.1)

left_some : (operands : List Value) (frames : List StackFrame) → 0 < length frames → 0 < length (with_operands operands frames)
left_some operands [] some = some
left_some operands (f ∷ below) some = omega arith

module _ (imaged : Imaged) (called : Mode) (m : Member) where
  abbrev P : Program
  P = program_of imaged

  abbrev of : List StackFrame → LimitedHeap → Site
  of old heap = site imaged old heap.heap called (declared_at P (top_method old)).class m

  abbrev i : Instruction
  i = Invoke called m

  -- the effect of the call, where the model's call has this one
  effect_is : (old : List StackFrame) (heap : LimitedHeap) (does : Terms → Part → Option Effect) → CallIs (of old heap) does → (terms : Terms) (x : Part) → x.operands ≡ top_operands old
      → x.heap ≡ typed_heap imaged heap.heap → effect P imaged.prefix terms (declared_at P (top_method old)).class i x ≡ does terms x
  unfolding effect
  effect_is old heap does is terms x operands heap_is = is terms x operands heap_is

  module _ (flags : List Bool) (st : Store) (counter : Option Counter) (stop : ℕ) where
    abbrev run : List StackFrame → Running
    run fs = record { parts = parts flags st fs; counter = counter; stop = stop }

    abbrev Reported : List StackFrame → List StackFrame → Settled → Type 0
    Reported old new result =
        (rest : List HostAnswer) → reported_of (doing imaged i (terms_of (run old)) (state_of imaged rest (run old))) ≡ settled_reported result (state_of imaged rest (run new))

    -- so the run goes on with what is left
    goes_reported : (f : StackFrame) (below : List StackFrame) (taken : ℕ) (flow : Flow) → CallIs (of (f ∷ below) st.heap) (λ terms p. Some (goes (left_part (of (f ∷ below) st.heap) taken p) flow))
        → (rest : List HostAnswer) → reported_of (doing imaged i (terms_of (run (f ∷ below))) (state_of imaged rest (run (f ∷ below))))
        ≡ reported_of (settle P imaged.prefix (terms_of (run (f ∷ below))) (state_of imaged rest (run (f ∷ below)))
        (record (frame_seen P f) { operands = left_values (of (f ∷ below) st.heap) taken }) (frames_seen P below) flow)
    goes_reported f below taken flow does rest =
        let terms : Terms = terms_of (run (f ∷ below)) in
        let s : State = state_of imaged rest (run (f ∷ below)) in
        ap (λ (o : Option Effect). reported_of (settled P imaged.prefix terms s (frame_seen P f) (frames_seen P below) o))
        (effect_is (f ∷ below) st.heap (λ terms p. Some (goes (left_part (of (f ∷ below) st.heap) taken p) flow)) does terms (part_of (frame_seen P f) s) refl refl)

    link_reported : (old new : List StackFrame) → 0 < length old → GoesOn (of old st.heap) new (End outcomes.Link) → Reported old new (settles.Ended outcomes.Link)
    unfolding settle
    link_reported [] new some g rest = absurd (omega (arith, some))
    link_reported (f ∷ below) new some g rest = goes_reported f below g.taken (End outcomes.Link) g.does rest

    raised_reported : (old new frames : List StackFrame) (heap : LimitedHeap) (raised : Raised) (result : Settled) → 0 < length old → GoesOn (of old st.heap) new (Goes (Raise raised))
        → Settles imaged (account_of counter).exceeded (raising imaged raised) st.heap heap new frames result
        → (rest : List HostAnswer) → reported_of (doing imaged i (terms_of (run old)) (state_of imaged rest (run old)))
        ≡ settled_reported result (state_of imaged rest (record { parts = parts flags (store heap st.statics st.literals) frames; counter = counter; stop = stop }))
    unfolding settle
    raised_reported [] new frames heap raised result some g settles rest = absurd (omega (arith, some))
    raised_reported (f ∷ below) new frames heap raised result some g settles rest =
        let terms : Terms = terms_of (run (f ∷ below)) in
        let s : State = state_of imaged rest (run (f ∷ below)) in
        goes_reported f below g.taken (Goes (Raise raised)) g.does rest
        ∙ (ap (λ (fs : List StackFrame). reported_of (raising imaged raised terms (record s { frames = frames_seen P fs }))) (sym g.frames)
        ∙ settles.answers terms s refl refl)

    entered_reported : (old new : List StackFrame) → 0 < length old → Enters (of old st.heap) new → Reported old new settles.Went
    unfolding settle
    entered_reported [] new some e rest = absurd (omega (arith, some))
    entered_reported (f ∷ below) new some e rest =
        let s : State = state_of imaged rest (run (f ∷ below)) in
        goes_reported f below e.calls.taken (Call (declared_of e.calls.found) (taken_values (of (f ∷ below) st.heap) e.calls.taken)) e.calls.does rest
        ∙ ap reported_of (entered_called (of (f ∷ below) st.heap) new e (declared_at P) s (declared_there P e.calls.method.number e.calls.found e.calls.there))

    deep_reported : (old new : List StackFrame) → 0 < length old → IsTooDeep (of old st.heap) new → Reported old new (settles.Ended outcomes.TooDeep)
    unfolding settle
    deep_reported [] new some e rest = absurd (omega (arith, some))
    deep_reported (f ∷ below) new some e rest =
        let s : State = state_of imaged rest (run (f ∷ below)) in
        let method : Declared = declared_of e.calls.found in
        let args : List Value = taken_values (of (f ∷ below) st.heap) e.calls.taken in
        goes_reported f below e.calls.taken (Call method args) e.calls.does rest
        ∙ (ap (λ (fs : List StackFrame). reported_of (model.called P (record s { frames = frames_seen P fs }) method args)) (sym e.frames)
        ∙ ap reported_of (deep_called (of (f ∷ below) st.heap) new e (declared_at P) s))

    -- ---- what stands then

    entered_stand : (old new : List StackFrame) → Enters (of old st.heap) new → AreActivations imaged old → AreActivations imaged new
    entered_stand old new e stand = subst (AreActivations imaged) (sym e.frames) (
      record { found = e.calls.found; there = e.calls.there; code = e.calls.code; runs = e.calls.runs; room = refl },
      left_stand imaged (left_values (of old st.heap) e.calls.taken) old stand,
    )

    still_with : (old new : List StackFrame) → IsStill imaged (run old) → AreActivations imaged new → IsStill imaged (run new)
    still_with old new still stand = record { flags = still.flags; store = still.store; activations = stand; known = still.known; counts = still.counts }

    turns_with : (old new : List StackFrame) (result : Settled) → IsStill imaged (run old) → AreActivations imaged new → Reported old new result → TurnsBy imaged (doing imaged i) (run old) (run new) [] result
    turns_with old new result still stand reported = record { says = reported; limit = refl; counting = refl; still = still_with old new still stand; stop = inl refl }

    pub entered_turns : (old new : List StackFrame) → IsInvoked imaged old called m (run new) invoked.Entered → TurnsBy imaged (doing imaged i) (run old) (run new) [] settles.Went
    entered_turns old new is =
        turns_with old new settles.Went is.still (entered_stand old new is.invokes is.still.activations) (entered_reported old new is.some is.invokes)

    pub deep_turns : (old new : List StackFrame) → IsInvoked imaged old called m (run new) invoked.TooDeep
        → TurnsBy imaged (doing imaged i) (run old) (run new) [] (settles.Ended outcomes.TooDeep)
    deep_turns old new is =
        turns_with old new (settles.Ended outcomes.TooDeep) is.still
        (subst (AreActivations imaged) (sym is.invokes.frames) (left_stand imaged (left_values (of old st.heap) is.invokes.calls.taken) old is.still.activations))
        (deep_reported old new is.some is.invokes)

    goes_stand : (old new : List StackFrame) (flow : Flow) → GoesOn (of old st.heap) new flow → AreActivations imaged old → AreActivations imaged new
    goes_stand old new flow g stand = subst (AreActivations imaged) (sym g.frames) (left_stand imaged (left_values (of old st.heap) g.taken) old stand)

    pub link_turns : (old new : List StackFrame) → IsInvoked imaged old called m (run new) invoked.Link
        → TurnsBy imaged (doing imaged i) (run old) (run new) [] (settles.Ended outcomes.Link)
    link_turns old new is =
        turns_with old new (settles.Ended outcomes.Link) is.still (goes_stand old new (End outcomes.Link) is.invokes is.still.activations) (link_reported old new is.some is.invokes)

    pub raised_stand : (old new : List StackFrame) (raised : Raised) → IsInvoked imaged old called m (run new) (invoked.Raise raised) → AreActivations imaged new
    raised_stand old new raised is = goes_stand old new (Goes (Raise raised)) is.invokes is.still.activations

    pub raised_then : (old new frames : List StackFrame) (heap : LimitedHeap) (raised : Raised) (result : Result Settled AllocError) → IsInvoked imaged old called m (run new) (invoked.Raise raised)
        → IfOk result (Settles imaged (account_of counter).exceeded (raising imaged raised) st.heap heap new frames)
        → IfOk result (TurnsBy imaged (doing imaged i) (run old) (record { parts = parts flags (store heap st.statics st.literals) frames; counter = counter; stop = stop }) [])
    raised_then old new frames heap raised (Err e) is settles = tt
    raised_then old new frames heap raised (Ok result) is settles = record {
      says = raised_reported old new frames heap raised result is.some is.invokes settles;
      limit = settles.limit;
      counting = refl;
      still = record {
        flags = is.still.flags;
        store = record { statics = is.still.store.statics; count = is.still.store.count; texts = is.still.store.texts };
        activations = settles.stand;
        known = settles.known;
        counts = is.still.counts;
      };
      stop = inl refl;
    }

    -- ---- native methods

    pub calls_native : (old new : List StackFrame) (id : NativeId) (count : ℕ) → IsInvoked imaged old called m (run new) (invoked.Native id count) → CallsNative imaged i new st.heap id count
    calls_native old new id count is =
        subst (λ (fs : List StackFrame). CallsNative imaged i fs st.heap id count) (sym is.invokes.frames)
        (λ terms p operands heap_is. effect_is old st.heap
        (λ terms p. native P imaged.prefix terms (left_part (of old st.heap) count p) id (taken_values (of old st.heap) count)) is.invokes.does terms p operands heap_is)

    pub native_still : (old new : List StackFrame) (id : NativeId) (count : ℕ) → IsInvoked imaged old called m (run new) (invoked.Native id count) → IsStill imaged (run new)
    native_still old new id count is = subst (λ (fs : List StackFrame). IsStill imaged (run fs)) (sym is.invokes.frames) is.still

    pub native_some : (old new : List StackFrame) (id : NativeId) (count : ℕ) → IsInvoked imaged old called m (run new) (invoked.Native id count) → 0 < length new
    native_some old new id count is = subst (λ (fs : List StackFrame). 0 < length fs) (sym is.invokes.frames) is.some

    pub native_before : (old new : List StackFrame) (id : NativeId) (count : ℕ) → IsInvoked imaged old called m (run new) (invoked.Native id count) → run new ≡ run old
    native_before old new id count is = ap run is.invokes.frames

    -- it is one of the program's
    pub native_quiet : (old new : List StackFrame) (id : NativeId) (count : ℕ) → AsksNothing P → IsInvoked imaged old called m (run new) (invoked.Native id count) → IsQuiet id
    native_quiet old new id count quiet is =
        let there = method_is P (declared_of is.invokes.found) is.invokes.found.method is.invokes.its in
        quiet there.class is.invokes.found.method id there.class_in there.method_in is.invokes.body

-- ---- the arguments of a native method are of the kinds that it takes

native_signed : (mode : Mode) (static : Bool) (desc : Desc) (id : NativeId) (parameters : List Kind) → static ≡ is_static_mode mode → signature_of static desc ≡ Some (native_signature id)
    → kinds_of (parameters_of desc) ≡ Some parameters → taken_kinds mode parameters ≡ (native_signature id).parameters
native_signed mode static desc id parameters same signed are = by (call_signature desc) refl mode (subst (λ (b : Bool). with_receiver b (call_signature desc) ≡ Some (native_signature id)) same signed) where
  by : (o : Option Signature) → call_signature desc ≡ o → (mode : Mode) → with_receiver (is_static_mode mode) o ≡ Some (native_signature id) → taken_kinds mode parameters ≡ (native_signature id).parameters
  by None e mode signed = absurd (none-some (native_signature id) signed)
  by (Some signature) e mode signed = with_mode mode signed where
    own : parameters ≡ signature.parameters
    own = same_Some parameters signature.parameters (sym are ∙ kinds_there desc signature e)

    instance : Some (record signature { parameters = tags.Ref ∷ signature.parameters }) ≡ Some (native_signature id) → tags.Ref ∷ parameters ≡ (native_signature id).parameters
    instance f = ap (λ (ks : List Kind). tags.Ref ∷ ks) own ∙ ap (λ (x : Signature). x.parameters) (same_Some (record signature { parameters = tags.Ref ∷ signature.parameters }) (native_signature id) f)

    with_mode : (mode : Mode) → with_receiver (is_static_mode mode) (Some signature) ≡ Some (native_signature id) → taken_kinds mode parameters ≡ (native_signature id).parameters
    with_mode Static f = own ∙ ap (λ (x : Signature). x.parameters) (same_Some signature (native_signature id) f)
    with_mode Virtual f = instance f
    with_mode Special f = instance f
    with_mode (Interface count) f = instance f

native_body : (program : Program) (prefix : Prefix) → IsSound program prefix → (m : Declared) (method : Method) (id : NativeId) → method_at program m ≡ Some method → method.body ≡ Native id
    → signature_of (is_static method.flags) method.desc ≡ Some (native_signature id)
native_body program prefix sound m method id at body =
    let is = method_is program m method at in
    subst (λ (b : Body). IsSoundBody program prefix method b) body ((sound.classes is.class is.class_in).bodies method is.method_in)

pub native_given : (imaged : Imaged) (called : Mode) (m : Member) (flags : List Bool) (st : Store) (counter : Option Counter) (stop : ℕ) (old new : List StackFrame) (id : NativeId) (count : ℕ)
    → IsSound (program_of imaged) imaged.prefix → IsInvoked imaged old called m (run imaged called m flags st counter stop new) (invoked.Native id count) → AreGiven new id count
native_given imaged called m flags st counter stop old new id count sound is =
    subst (λ (fs : List StackFrame). AreGiven fs id count) (sym is.invokes.frames) (record {
      within = is.invokes.within;
      kinds = is.invokes.values
          ∙ native_signed called (is_static is.invokes.found.method.flags) m.desc id is.invokes.parameters is.invokes.static
          (subst (λ (d : Desc). signature_of (is_static is.invokes.found.method.flags) d ≡ Some (native_signature id)) is.invokes.described
          (native_body (program_of imaged) imaged.prefix sound (declared_of is.invokes.found) is.invokes.found.method id is.invokes.its is.invokes.body))
          is.invokes.parameters_are;
    })

-- ---- a call that was begun

pub invoked_begun : (imaged : Imaged) (called : Mode) (m : Member) (own : ℕ) (r : Running) (new : List StackFrame) (reported : Option Invoked) (one : Invoked) → reported ≡ Some one
    → class_name (program_of imaged) own ≡ (declared_at (program_of imaged) (top_method r.parts.frames)).class → 0 < length r.parts.frames → IsStill imaged r
    → IsStop imaged r.parts.store.heap r.stop → Invokes (site imaged r.parts.frames r.parts.store.heap.heap called (class_name (program_of imaged) own) m) new reported
    → IsInvoked imaged r.parts.frames called m (record r { parts = parts r.parts.flags r.parts.store new }) one
invoked_begun imaged called m own r new reported one is named some still stop invokes = record {
  some = some;
  still = record { flags = still.flags; store = still.store; activations = still.activations; known = still.known; counts = still.counts };
  stop = stop;
  invokes = subst (λ (class : Name). Invokes (site imaged r.parts.frames r.parts.store.heap.heap called class m) new (Some one)) named
      (subst (Invokes (site imaged r.parts.frames r.parts.store.heap.heap called (class_name (program_of imaged) own) m) new) is invokes);
}
