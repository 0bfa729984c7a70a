-- What an instruction that was done leaves, and what follows it, are what the model has.
use Rattle.std.proofs.Common.{◌≡◌, ◌<◌, ℕ, Bool, false, List, [], ◌∷◌, ◌++◌, length, Option, Some, None, refl, sym, ap, subst, ◌∙◌, inl, arith}
use Rattle.std.specs.Prelude.{Result, Ok, Err, IfOk, ⊤}
use Rattle.std.specs.Option.{option_map}
use Rattle.std.proofs.lemmas.Option.{none-some, same_Some}
use Rattle.std.specs.declared.alloc.AllocError.{AllocError}
use Rattle.dj_names.specs.declared.run.Charge.{Charge}
use Rattle.dj_names.specs.declared.run.Value.{Value}
use Rattle.dj_edge.specs.declared.host.HostAnswer.{HostAnswer}
use Rattle.dj_model.specs.trusted.Types.{Declared}
use Rattle.dj_model.specs.trusted.Instructions.{Instruction}
use Rattle.dj_model.specs.trusted.Program.{Program}
use Rattle.dj_model.specs.trusted.State.{Terms, State, Frame, Flow, Goes, Part, Effect}
use Rattle.dj_model.specs.trusted.Effects.{effect}
use Rattle.dj_model.specs.trusted.Step.{settled, part_of, with_part, frame_with}
use Rattle.dj_heap.specs.Heaps.{LimitedHeap}
use Rattle.dj_stack.specs.Frames.{StackFrame, SameFrames, top_locals, top_number}
use Rattle.dj_effects.specs.Does.{reported_operands, way_view}
use Rattle.dj_effects.specs.declared.way.Way.{Way}
use Rattle.dj_effects.specs.declared.way.Way.TheVariants as ways
use Rattle.dj_natives.specs.Calls.{counting_of}
use Rattle.dj_natives.specs.Counting.{Counter}
use Rattle.dj_image.specs.Imaged.{Imaged, program_of}
use Rattle.dj_current_method.specs.Activations.{AreActivations, declared_at, frame_seen, frames_seen}
use Rattle.dj_current_method.proofs.Standing.{same_stand}
use Rattle.dj_initialisation.specs.Store.{Store, IsStore, store}
use Rattle.dj_initialisation.specs.Preparing.{parts}
use Rattle.dj_image_effects.specs.declared.acted.Acted.{Acted}
use Rattle.dj_image_effects.specs.declared.acted.Acted.TheVariants as acts
use Rattle.dj_image_effects.specs.Acting.{Acts, IsActed, IsKept, Machine, machine, acted_operands, flow_reported, part_with}
use Rattle.dj_settling.specs.declared.settled.Settled.{Settled}
use Rattle.dj_settling.specs.Reported.{reported_of}
use Rattle.dj_settling.specs.Settling.{Settles, settled_reported, top_settled}
use Rattle.dj_settling.proofs.WayLaws.{settled_alike}
use Rattle.dj_image_step.specs.Running.{Running, account_of, state_of, terms_of}
use Rattle.dj_image_step.specs.Doing.{ActedSettles, FlowSettles, IsStill, TurnsBy, doing}
use Rattle.dj_image_step.proofs.Alike.{flow_alike}

-- ---- what is left stands

pub acted_stand : (imaged : Imaged) (i : Instruction) (before after : Machine) (acted : Acted) → IsActed imaged i before after acted → AreActivations imaged before.frames
    → AreActivations imaged after.frames
acted_stand imaged i before after (acts.Goes way) a stand = same_stand imaged before.frames after.frames a.frames stand
acted_stand imaged i before after (acts.Catch exception) a stand = same_stand imaged before.frames after.frames a.frames stand
acted_stand imaged i before after acts.Link a stand = same_stand imaged before.frames after.frames a.frames stand
acted_stand imaged i before after (acts.HeapFull used size) a stand = same_stand imaged before.frames after.frames a.frames stand
acted_stand imaged i before after acts.Stuck a stand = same_stand imaged before.frames after.frames a.frames stand
acted_stand imaged i before after acts.Call a stand = subst (λ (m : Machine). AreActivations imaged m.frames) (sym a.1) stand

as_many : (old new : List StackFrame) → SameFrames old new → 0 < length old → 0 < length new
as_many old new same some = let count = same.count in omega (arith, count, some)

pub acted_some : (imaged : Imaged) (i : Instruction) (before after : Machine) (acted : Acted) → IsActed imaged i before after acted → 0 < length before.frames → 0 < length after.frames
acted_some imaged i before after (acts.Goes way) a some = as_many before.frames after.frames a.frames some
acted_some imaged i before after (acts.Catch exception) a some = as_many before.frames after.frames a.frames some
acted_some imaged i before after acts.Link a some = as_many before.frames after.frames a.frames some
acted_some imaged i before after (acts.HeapFull used size) a some = as_many before.frames after.frames a.frames some
acted_some imaged i before after acts.Stuck a some = as_many before.frames after.frames a.frames some
acted_some imaged i before after acts.Call a some = subst (λ (m : Machine). 0 < length m.frames) (sym a.1) some

-- it was done, where a flow is reported
pub acts_of : (imaged : Imaged) (i : Instruction) (before after : Machine) (acted : Acted) (flow : Flow) → flow_reported acted ≡ Some flow → IsActed imaged i before after acted → Acts imaged i before after acted
acts_of imaged i before after (acts.Goes way) flow e a = a
acts_of imaged i before after (acts.Catch exception) flow e a = a
acts_of imaged i before after acts.Link flow e a = a
acts_of imaged i before after (acts.HeapFull used size) flow e a = a
acts_of imaged i before after acts.Stuck flow e a = absurd (none-some flow e)
acts_of imaged i before after acts.Call flow e a = absurd (none-some flow e)

is_store : (imaged : Imaged) (st : Store) (acted : Acted) (flow : Flow) → flow_reported acted ≡ Some flow → IsKept imaged st acted → IsStore imaged st
is_store imaged st (acts.Goes way) flow e kept = kept
is_store imaged st (acts.Catch exception) flow e kept = kept
is_store imaged st acts.Link flow e kept = kept
is_store imaged st (acts.HeapFull used size) flow e kept = kept
is_store imaged st acts.Stuck flow e kept = absurd (none-some flow e)
is_store imaged st acts.Call flow e kept = absurd (none-some flow e)

-- ---- what follows

module _ (imaged : Imaged) (terms : Terms) (s : State) where
  -- the operands of the effect, or those that the machine has
  abbrev Alike : Flow → Frame Declared → List Value → List (Frame Declared) → Type 0
  Alike flow g operands below = reported_of (top_settled (program_of imaged) imaged.prefix flow terms (record s { frames = record g { operands = operands } ∷ below }))
      ≡ reported_of (top_settled (program_of imaged) imaged.prefix flow terms (record s { frames = g ∷ below }))

  way_alike : (old : List StackFrame) (g : StackFrame) (rest : List StackFrame) (below : List (Frame Declared)) (way : Way)
      → Alike (Goes (way_view way)) (frame_seen (program_of imaged) g) (reported_operands old (g ∷ rest) way) below
  way_alike old g rest below ways.Next = refl
  way_alike old g rest below (ways.To number) = refl
  way_alike old g rest below (ways.Raise raised) =
      flow_alike (program_of imaged) imaged.prefix (frame_seen (program_of imaged) g) (reported_operands old (g ∷ rest) (ways.Raise raised)) below terms s (Goes (way_view (ways.Raise raised))) tt
  way_alike old g rest below (ways.Back value) = refl

  acted_alike : (old : List StackFrame) (g : StackFrame) (rest : List StackFrame) (below : List (Frame Declared)) (acted : Acted) (flow : Flow) → flow_reported acted ≡ Some flow
      → Alike flow (frame_seen (program_of imaged) g) (acted_operands old (g ∷ rest) acted) below
  acted_alike old g rest below acted flow e = by acted e where
    left : (acted : Acted) (own : Flow) → flow_reported acted ≡ Some own → flow_reported acted ≡ Some flow
        → Alike own (frame_seen (program_of imaged) g) (acted_operands old (g ∷ rest) acted) below → Alike flow (frame_seen (program_of imaged) g) (acted_operands old (g ∷ rest) acted) below
    left acted own is e alike =
        subst (λ (x : Flow). Alike x (frame_seen (program_of imaged) g) (acted_operands old (g ∷ rest) acted) below) (same_Some own flow (sym is ∙ e)) alike

    by : (acted : Acted) → flow_reported acted ≡ Some flow → Alike flow (frame_seen (program_of imaged) g) (acted_operands old (g ∷ rest) acted) below
    by (acts.Goes way) e = left (acts.Goes way) (Goes (way_view way)) refl e (way_alike old g rest below way)
    by (acts.Catch exception) e = left (acts.Catch exception) _ refl e
        (flow_alike (program_of imaged) imaged.prefix (frame_seen (program_of imaged) g) (acted_operands old (g ∷ rest) (acts.Catch exception)) below terms s _ tt)
    by acts.Link e = left acts.Link _ refl e
        (flow_alike (program_of imaged) imaged.prefix (frame_seen (program_of imaged) g) (acted_operands old (g ∷ rest) acts.Link) below terms s _ tt)
    by (acts.HeapFull used size) e = left (acts.HeapFull used size) _ refl e
        (flow_alike (program_of imaged) imaged.prefix (frame_seen (program_of imaged) g) (acted_operands old (g ∷ rest) (acts.HeapFull used size)) below terms s _ tt)
    by acts.Call e = absurd (none-some flow e)
    by acts.Stuck e = absurd (none-some flow e)

  -- the top frame as the effect leaves it
  left_seen : (f : StackFrame) (below : List StackFrame) (g : StackFrame) (rest : List StackFrame) (operands : List Value) → SameFrames (f ∷ below) (g ∷ rest) → top_number (g ∷ rest) ≡ top_number (f ∷ below)
      → record (frame_seen (program_of imaged) f) { locals = g.locals; operands = operands } ∷ frames_seen (program_of imaged) below
      ≡ record (frame_seen (program_of imaged) g) { operands = operands } ∷ frames_seen (program_of imaged) rest
  left_seen f below g rest operands same number = λ i. record {
    method = declared_at (program_of imaged) (sym same.method i);
    number = sym number i;
    locals = g.locals;
    operands = operands;
    paid = false;
  } ∷ frames_seen (program_of imaged) (sym same.below i)

  pub left_alike : (f : StackFrame) (below new : List StackFrame) (acted : Acted) (flow : Flow) (p : Part) → flow_reported acted ≡ Some flow → SameFrames (f ∷ below) new
      → top_number new ≡ top_number (f ∷ below) → p.locals ≡ top_locals new → p.operands ≡ acted_operands (f ∷ below) new acted
      → reported_of (top_settled (program_of imaged) imaged.prefix flow terms (record s { frames = frame_with (frame_seen (program_of imaged) f) p ∷ frames_seen (program_of imaged) below }))
      ≡ reported_of (top_settled (program_of imaged) imaged.prefix flow terms (record s { frames = frames_seen (program_of imaged) new }))
  left_alike f below [] acted flow p e same number locals operands = absurd (let count = same.count in omega (arith, count))
  left_alike f below (g ∷ rest) acted flow p e same number locals operands =
      let P : Program = program_of imaged in
      (λ i. reported_of (top_settled P imaged.prefix flow terms (record s { frames = record (frame_seen P f) { locals = locals i; operands = operands i } ∷ frames_seen P below })))
      ∙ (ap (λ (frames : List (Frame Declared)). reported_of (top_settled P imaged.prefix flow terms (record s { frames = frames })))
      (left_seen f below g rest (acted_operands (f ∷ below) (g ∷ rest) acted) same number)
      ∙ acted_alike (f ∷ below) g rest (frames_seen P rest) acted flow e)

-- ---- the whole

module _ (imaged : Imaged) (i : Instruction) (flags : List Bool) (st : Store) (counter : Option Counter) (stop : ℕ) (m : Machine) (heap : LimitedHeap) (frames : List StackFrame) where
  abbrev begun : List StackFrame → Running
  begun fs = record { parts = parts flags st fs; counter = counter; stop = stop }

  abbrev ended : Running
  ended = record { parts = parts flags (store heap m.store.statics m.store.literals) frames; counter = counter; stop = stop }

  says : (fs : List StackFrame) → 0 < length fs → (acted : Acted) (flow : Flow) (result : Settled) → flow_reported acted ≡ Some flow → Acts imaged i (machine fs st) m acted
      → Settles imaged (account_of counter).exceeded (top_settled (program_of imaged) imaged.prefix flow) m.store.heap heap m.frames frames result
      → (rest : List HostAnswer) → reported_of (doing imaged i (terms_of (begun fs)) (state_of imaged rest (begun fs))) ≡ settled_reported result (state_of imaged rest ended)
  says [] some acted flow result e a settles rest = absurd (omega (arith, some))
  says (f ∷ below) some acted flow result e a settles rest =
      let P : Program = program_of imaged in
      let terms : Terms = terms_of (begun (f ∷ below)) in
      let s : State = state_of imaged rest (begun (f ∷ below)) in
      let F : Frame Declared = frame_seen P f in
      let B : List (Frame Declared) = frames_seen P below in
      let p : Part = part_with imaged m (acted_operands (f ∷ below) m.frames acted) (account_of counter) rest in
      let does : effect P imaged.prefix terms F.method.class i (part_of F s) ≡ Some (record { part = p; flow = flow }) =
      a.effect terms F.method.class (account_of counter) rest refl ∙ ap (option_map (λ (x : Flow). record { part = p; flow = x })) e in
      ap (λ (o : Option Effect). reported_of (settled P imaged.prefix terms s F B o)) does
      ∙ (settled_alike P imaged.prefix terms (with_part s p) (frame_with F p) B flow
      ∙ (left_alike imaged terms (with_part s p) f below m.frames acted flow p e a.frames a.number refl refl
      ∙ settles.answers terms (with_part s p) (ap Some (sym a.limit)) refl))

  pub acted_turns : (fs : List StackFrame) (acted : Acted) (result : Settled) → 0 < length fs → IsStill imaged (begun fs) → IsActed imaged i (machine fs st) m acted
      → ActedSettles imaged (account_of counter).exceeded acted m.store.heap heap m.frames frames result → TurnsBy imaged (doing imaged i) (begun fs) ended [] result
  acted_turns fs acted result some still is settles = by (flow_reported acted) refl settles where
    by : (o : Option Flow) → flow_reported acted ≡ o → FlowSettles imaged (account_of counter).exceeded o m.store.heap heap m.frames frames result
        → TurnsBy imaged (doing imaged i) (begun fs) ended [] result
    by None e settles = absurd settles
    by (Some flow) e settles =
        let a = acts_of imaged i (machine fs st) m acted flow e is in
        let kept = is_store imaged m.store acted flow e a.are in
        record {
          says = says fs some acted flow result e a settles;
          limit = settles.limit ∙ a.limit;
          counting = refl;
          still = record {
            flags = still.flags;
            store = record { statics = kept.statics; count = kept.count; texts = kept.texts };
            activations = settles.stand;
            known = settles.known;
            counts = still.counts;
          };
          stop = inl refl;
        }

  pub acted_then : (fs : List StackFrame) (acted : Acted) (result : Result Settled AllocError) → 0 < length fs → IsStill imaged (begun fs) → IsActed imaged i (machine fs st) m acted
      → IfOk result (ActedSettles imaged (account_of counter).exceeded acted m.store.heap heap m.frames frames) → IfOk result (TurnsBy imaged (doing imaged i) (begun fs) ended [])
  acted_then fs acted (Err e) some still is settles = tt
  acted_then fs acted (Ok result) some still is settles = acted_turns fs acted result some still is settles
