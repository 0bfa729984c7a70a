-- A step of which a part was done at once, and its rest, are what the model has.
use Rattle.std.proofs.Common.{◌≡◌, ◌<◌, ℕ, [], List, length, Option, Some, None, refl, sym, ap, subst, ◌∙◌, arith, IsFalse}
use Rattle.std.specs.Prelude.{Result, Ok, Err, IfOk}
use Rattle.std.proofs.lemmas.Option.{same_Some}
use Rattle.dj_names.specs.declared.descriptor.Ty.{Ty}
use Rattle.std.specs.declared.alloc.AllocError.{AllocError}
use Rattle.dj_names.specs.declared.run.Charge.{Charge}
use Rattle.dj_edge.specs.declared.host.HostAnswer.{HostAnswer}
use Rattle.dj_model.specs.trusted.Charging.{new_account}
use Rattle.dj_model.specs.trusted.Instructions.{Instruction}
use Rattle.dj_model.specs.Instructions.{calls}
use Rattle.dj_model.specs.Sound.{IsSound}
use Rattle.dj_model.specs.trusted.State.{Account, Flow, Effect, Part}
use Rattle.dj_heap.specs.Heaps.{LimitedHeap}
use Rattle.dj_stack.specs.Frames.{StackFrame}
use Rattle.dj_effects.specs.declared.way.Way.TheVariants as ways
use Rattle.dj_natives.specs.Known.{AreKnown}
use Rattle.dj_numbering.specs.Typed.{types_of}
use Rattle.dj_image.specs.Imaged.{Imaged, program_of, typed_of}
use Rattle.dj_host.specs.trusted.Hosted.{given_since}
use Rattle.dj_current_method.specs.Activations.{AreActivations}
use Rattle.dj_current_method.specs.Instructions.{instruction_of_number}
use Rattle.dj_current_method.proofs.Standing.{same_stand}
use Rattle.dj_initialisation.specs.Store.{store}
use Rattle.dj_unwinding.specs.Short.{AreShort}
use Rattle.dj_initialisation.specs.declared.prepare.Prepared.TheVariants as prepares
use Rattle.dj_image_effects.specs.declared.acted.Acted.{Acted}
use Rattle.dj_image_effects.specs.declared.acted.Acted.TheVariants as acts
use Rattle.dj_image_effects.specs.declared.begun.Begun.{Begun}
use Rattle.dj_image_effects.specs.declared.begun.Begun.TheVariants as begins
use Rattle.dj_image_effects.specs.Acting.{Acts, ActsOnHeap, Machine, effect_reported, flow_reported, machine, part_of}
use Rattle.dj_image_effects.specs.Begun.{BeginsBy, Goes, IsGone, IsKnownAfter, IsKnownThen}
use Rattle.dj_image_effects.proofs.Reported.{acted_so}
use Rattle.dj_settling.specs.declared.settled.Settled.{Settled}
use Rattle.dj_settling.specs.declared.settled.Settled.TheVariants as settles
use Rattle.dj_settling.proofs.WayLaws.{went_on, went_to}
use Rattle.dj_image_step.specs.Begun.{Begins, IsBegun, IsFrugalBegun, IsLeft, with_heap}
use Rattle.dj_image_step.specs.Running.{IsKept, IsRunning, Kept, Running, account_of, terms_of}
use Rattle.dj_image_step.specs.Doing.{ActedSettles, IsStill, IsTop, IsUsed, TurnsBy, stepping}
use Rattle.dj_image_step.specs.Frugal.{IsFrugalActed, IsFrugalRun, IsReadyFor}
use Rattle.dj_image_step.specs.Turning.{MakesStep}
use Rattle.dj_image_step.proofs.ActedLaws.{acted_then}
use Rattle.dj_image_step.proofs.HostLaws.{none_given}
use Rattle.dj_image_step.proofs.Performed.{none_then, still_of}
use Rattle.dj_image_step.proofs.Prepared.{next_turns, prepared_already, ready_then}
use Rattle.dj_image_step.proofs.SoundNext.{does_soundly, sound_next}
use Rattle.dj_image_step.proofs.SoundRuns.{frugal_for, ready_for}
use Rattle.dj_image_step.proofs.Tops.{next_is}
use Rattle.dj_image_step.proofs.Turned.{turned, turned_so}

-- ---- what was done of the instruction

flow_in : (imaged : Imaged) (before after : Machine) (account : Account) (answers : List HostAnswer) (acted : Acted) (e : Effect)
    → effect_reported imaged before after account answers acted ≡ Some e → (flow : Flow) × (flow_reported acted ≡ Some flow)
flow_in imaged before after account answers (acts.Goes way) e is = (_, refl)
flow_in imaged before after account answers (acts.Catch exception) e is = (_, refl)
flow_in imaged before after account answers acts.Link e is = (_, refl)
flow_in imaged before after account answers (acts.HeapFull used size) e is = (_, refl)
flow_in imaged before after account answers acts.Call e is = absurd cc
flow_in imaged before after account answers acts.Stuck e is = absurd cc

module _ (imaged : Imaged) (first : Running) (running : IsRunning imaged first) (method number : ℕ) (top : IsTop imaged first.parts.frames method number) (i : Instruction)
    (at : instruction_of_number imaged method number ≡ Some i) (unused : IsUsed imaged i None) (left : List StackFrame) (heap : LimitedHeap) (acted : Acted)
    (does : ActsOnHeap imaged i first.parts.frames left first.parts.store.heap heap acted) where
  abbrev done : Acts imaged i (machine first.parts.frames first.parts.store) (machine left (store heap first.parts.store.statics first.parts.store.literals)) acted
  done = does first.parts.store.statics first.parts.store.literals running.store

  pub left_stand : AreActivations imaged left
  left_stand = same_stand imaged first.parts.frames left done.frames running.activations

  pub left_some : 0 < length left
  left_some = let count = done.frames.count in let some = top.some in omega (arith, count, some)

  used : (j : Instruction) → instruction_of_number imaged method number ≡ Some j → IsUsed imaged j None
  used j reported = subst (λ (k : Instruction). IsUsed imaged k None) (same_Some i j (sym at ∙ reported)) unused

  -- and what follows it
  pub left_steps : (after : LimitedHeap) (frames : List StackFrame) (result : Result Settled AllocError)
      → IfOk result (ActedSettles imaged (account_of first.counter).exceeded acted heap after left frames) → IfOk result (TurnsBy imaged (stepping imaged) first (with_heap first after frames) [])
  left_steps after frames result settles =
      ready_then imaged first first (with_heap first after frames) [] prepares.Ready result running (prepared_already imaged first method number running top used) refl
      (next_turns imaged first (with_heap first after frames) [] method number i result top at
      (acted_then imaged i first.parts.flags first.parts.store first.counter first.stop (machine left (store heap first.parts.store.statics first.parts.store.literals)) after frames
      first.parts.frames acted result top.some (still_of imaged first running)
      (acted_so imaged i (machine first.parts.frames first.parts.store) (machine left (store heap first.parts.store.statics first.parts.store.literals)) acted done) settles))

  -- there is such a step
  module _ (sound : IsSound (program_of imaged) imaged.prefix) (plain : IsFalse (calls i)) where
    abbrev before : Part
    before = part_of imaged (machine first.parts.frames first.parts.store) new_account []

    pub flow_there : (flow : Flow) × (flow_reported acted ≡ Some flow)
    flow_there =
        let next = sound_next imaged sound first.parts.frames i running.activations running.standing (next_is imaged first.parts.frames method number top ∙ at) in
        let made = does_soundly imaged sound first.parts.frames i next (terms_of first) [] before refl refl plain in
        flow_in imaged (machine first.parts.frames first.parts.store) (machine left (store heap first.parts.store.statics first.parts.store.literals)) new_account [] acted made.effect.does
        (sym (done.effect (terms_of first) [] new_account [] refl) ∙ made.effect.has)

known_then : (types : List Ty) (heap : LimitedHeap) (acted : Acted) (flow : Flow) → flow_reported acted ≡ Some flow → IsKnownAfter types heap acted → AreKnown types heap
known_then types heap acts.Stuck flow reported known = absurd cc
known_then types heap (acts.Goes way) flow reported known = known
known_then types heap (acts.Catch exception) flow reported known = known
known_then types heap acts.Link flow reported known = known
known_then types heap (acts.HeapFull used size) flow reported known = known
known_then types heap acts.Call flow reported known = known

-- ---- the first part

gone_settles : (imaged : Imaged) (exceeded : Option Charge) (heap : LimitedHeap) (left new : List StackFrame) (acted : Acted) → 0 < length left → AreActivations imaged left
    → AreKnown (types_of (typed_of imaged)) heap → IsGone acted left new → ActedSettles imaged exceeded acted heap heap left new settles.Went
gone_settles imaged exceeded heap left new (acts.Goes ways.Next) some stand known gone = went_on imaged exceeded heap left new some gone.0 gone.1 known stand
gone_settles imaged exceeded heap left new (acts.Goes (ways.To target)) some stand known gone = went_to imaged exceeded heap left new target some gone.0 gone.1 known stand
gone_settles imaged exceeded heap left new (acts.Goes (ways.Raise raised)) some stand known gone = absurd gone
gone_settles imaged exceeded heap left new (acts.Goes (ways.Back value)) some stand known gone = absurd gone
gone_settles imaged exceeded heap left new (acts.Catch exception) some stand known gone = absurd gone
gone_settles imaged exceeded heap left new acts.Link some stand known gone = absurd gone
gone_settles imaged exceeded heap left new (acts.HeapFull used size) some stand known gone = absurd gone
gone_settles imaged exceeded heap left new acts.Call some stand known gone = absurd gone
gone_settles imaged exceeded heap left new acts.Stuck some stand known gone = absurd gone

module _ (imaged : Imaged) (first : Running) (sound : IsSound (program_of imaged) imaged.prefix) (running : IsRunning imaged first) (method number : ℕ)
    (top : IsTop imaged first.parts.frames method number) (i : Instruction) (at : instruction_of_number imaged method number ≡ Some i) (unused : IsUsed imaged i None)
    (plain : IsFalse (calls i)) (heap : LimitedHeap) (frames : List StackFrame) where
  went : Goes imaged i first.parts.frames frames first.parts.store.heap heap → AreKnown (types_of (typed_of imaged)) heap → MakesStep imaged first (with_heap first heap frames) [] settles.Went
  went goes known =
      turned_so imaged first (with_heap first heap frames) [] settles.Went sound running
      (left_steps imaged first running method number top i at unused goes.left heap goes.acted goes.does heap frames (Ok settles.Went)
      (gone_settles imaged (account_of first.counter).exceeded heap goes.left frames goes.acted
      (left_some imaged first running method number top i at unused goes.left heap goes.acted goes.does)
      (left_stand imaged first running method number top i at unused goes.left heap goes.acted goes.does) known goes.gone))

  is_left : (acted : Acted) → ActsOnHeap imaged i first.parts.frames frames first.parts.store.heap heap acted → IsKnownAfter (types_of (typed_of imaged)) heap acted
      → IsLeft imaged first (with_heap first heap frames) acted
  is_left acted does known =
      let flow = flow_there imaged first running method number top i at unused frames heap acted does sound plain in
      record {
        method = method;
        number = number;
        top = top;
        instruction = i;
        at = at;
        unused = unused;
        frames = frames;
        heap = heap;
        does = does;
        known = known_then (types_of (typed_of imaged)) heap acted flow.0 flow.1 known;
        flow = flow.0;
        reported = flow.1;
        is = refl;
      }

  pub begins_so : (begun : Begun) → BeginsBy imaged i first.parts.frames frames first.parts.store.heap heap begun → IsKnownThen (types_of (typed_of imaged)) heap begun
      → Begins imaged first (with_heap first heap frames) begun
  begins_so begins.Went goes known = went goes known
  begins_so begins.Nothing same known = λ k. with_heap first (same.1 k) (same.0 k)
  begins_so (begins.Left acted) does known = is_left acted does known

pub begun_so : (imaged : Imaged) (first new : Running) (begun : Begun) → IsRunning imaged first → Begins imaged first new begun → IsBegun imaged new begun
begun_so imaged first new begins.Went running begun = tt
begun_so imaged first new begins.Nothing running same = subst (IsRunning imaged) (sym same) running
begun_so imaged first new (begins.Left acted) running left = (first, running, left)

pub frugal_so : (imaged : Imaged) (first new : Running) (begun : Begun) → IsRunning imaged first → Begins imaged first new begun → IsFrugalRun imaged first → IsFrugalBegun imaged new begun
frugal_so imaged first new begins.Went running begun needs = tt
frugal_so imaged first new begins.Nothing running same needs = subst (IsFrugalRun imaged) (sym same) needs
frugal_so imaged first new (begins.Left acted) running left needs = (first, running, left, needs)

-- ---- the rest

left_again : (imaged : Imaged) (first r : Running) (acted : Acted) → IsRunning imaged first → IsLeft imaged first r acted
    → AreActivations imaged r.parts.frames × (0 < length r.parts.frames) × AreKnown (types_of (typed_of imaged)) r.parts.store.heap
left_again imaged first r acted running left =
    subst (λ (r : Running). AreActivations imaged r.parts.frames × (0 < length r.parts.frames) × AreKnown (types_of (typed_of imaged)) r.parts.store.heap) (sym left.is) (
      left_stand imaged first running left.method left.number left.top left.instruction left.at left.unused left.frames left.heap acted left.does,
      left_some imaged first running left.method left.number left.top left.instruction left.at left.unused left.frames left.heap acted left.does,
      left.known,
    )

pub begun_stand : (imaged : Imaged) (r : Running) (acted : Acted) → IsBegun imaged r (begins.Left acted) → AreActivations imaged r.parts.frames
begun_stand imaged r acted begun = (left_again imaged begun.0 r acted begun.1 begun.2).0

pub begun_some : (imaged : Imaged) (r : Running) (acted : Acted) → IsBegun imaged r (begins.Left acted) → 0 < length r.parts.frames
begun_some imaged r acted begun = (left_again imaged begun.0 r acted begun.1 begun.2).1

-- and it is fit for what follows
pub begun_ready : (imaged : Imaged) → IsSound (program_of imaged) imaged.prefix → (r : Running) (acted : Acted) → IsBegun imaged r (begins.Left acted)
    → IsReadyFor imaged r.parts.store.heap r.parts.frames acted
begun_ready imaged sound r acted begun =
    let first : Running = begun.0 in
    let running : IsRunning imaged first = begun.1 in
    let left : IsLeft imaged first r acted = begun.2 in
    let m : Machine = machine left.frames (store left.heap first.parts.store.statics first.parts.store.literals) in
    subst (λ (r : Running). IsReadyFor imaged r.parts.store.heap r.parts.frames acted) (sym left.is)
    (ready_for imaged sound first.parts.frames left.instruction first.parts.store m running.activations running.standing (next_is imaged first.parts.frames left.method left.number left.top ∙ left.at) acted
    (acted_so imaged left.instruction (machine first.parts.frames first.parts.store) m acted (left.does first.parts.store.statics first.parts.store.literals running.store)) left.known)

-- where the run needs no memory, nor does what follows
pub left_frugal : (imaged : Imaged) → IsSound (program_of imaged) imaged.prefix → AreShort imaged → (first r : Running) (acted : Acted) → IsRunning imaged first → IsLeft imaged first r acted
    → IsFrugalRun imaged first → IsFrugalActed imaged r.parts.store.heap r.parts.frames acted
left_frugal imaged sound short first r acted running left needs =
    let m : Machine = machine left.frames (store left.heap first.parts.store.statics first.parts.store.literals) in
    subst (λ (r : Running). IsFrugalActed imaged r.parts.store.heap r.parts.frames acted) (sym left.is)
    (frugal_for imaged sound short first running left.instruction (next_is imaged first.parts.frames left.method left.number left.top ∙ left.at) m acted
    (acted_so imaged left.instruction (machine first.parts.frames first.parts.store) m acted (left.does first.parts.store.statics first.parts.store.literals running.store)) needs)

pub begun_known : (imaged : Imaged) (r : Running) (acted : Acted) → IsBegun imaged r (begins.Left acted) → AreKnown (types_of (typed_of imaged)) r.parts.store.heap
begun_known imaged r acted begun = (left_again imaged begun.0 r acted begun.1 begun.2).2

pub left_then : (imaged : Imaged) (first r : Running) (acted : Acted) (after : LimitedHeap) (frames : List StackFrame) (result : Result Settled AllocError) → IsRunning imaged first
    → IsLeft imaged first r acted → IfOk result (ActedSettles imaged (account_of r.counter).exceeded acted r.parts.store.heap after r.parts.frames frames)
    → IfOk result (TurnsBy imaged (stepping imaged) first (with_heap r after frames) [])
left_then imaged first r acted after frames result running left =
    subst (λ (r : Running). IfOk result (ActedSettles imaged (account_of r.counter).exceeded acted r.parts.store.heap after r.parts.frames frames)
    → IfOk result (TurnsBy imaged (stepping imaged) first (with_heap r after frames) [])) (sym left.is)
    (left_steps imaged first running left.method left.number left.top left.instruction left.at left.unused left.frames left.heap acted left.does after frames result)

-- where the host isn't asked it gives nothing
pub begun_went : (imaged : Imaged) (first r : Running) (begun : Begun) (given : List HostAnswer) → begun ≡ begins.Went → Begins imaged first r begun
    → MakesStep imaged first r (given_since given given) settles.Went
begun_went imaged first r begun given e begins =
    subst (λ (gave : List HostAnswer). MakesStep imaged first r gave settles.Went) (sym (none_given given)) (subst (Begins imaged first r) e begins)

pub nothing_then : (imaged : Imaged) (kept : Kept) (first r new : Running) (gave : List HostAnswer) (result : Result Settled AllocError) → IsKept imaged kept → IsRunning imaged first → r ≡ first
    → IfOk result (TurnsBy imaged (stepping imaged) r new gave) → IfOk result (MakesStep imaged first new gave)
nothing_then imaged kept first r new gave result is running same turns =
    turned imaged kept first new gave result is running (subst (λ (r : Running). IfOk result (TurnsBy imaged (stepping imaged) r new gave)) same turns)

pub settled_then : (imaged : Imaged) (kept : Kept) (first new : Running) (given : List HostAnswer) (result : Result Settled AllocError) → IsKept imaged kept → IsRunning imaged first
    → IfOk result (TurnsBy imaged (stepping imaged) first new []) → IfOk result (MakesStep imaged first new (given_since given given))
settled_then imaged kept first new given result is running turns =
    turned imaged kept first new (given_since given given) result is running (none_then imaged (stepping imaged) first new given result turns)
