-- Runs that go on: what was done is fit for what follows, and where the next instruction needs no memory none is wanted.
use Rattle.std.proofs.Common.{◌≡◌, ◌<◌, ℕ, Bool, true, false, List, [], ◌∷◌, ◌++◌, length, Option, Some, None, refl, sym, ap, subst, ◌∙◌, arith, IsTrue, IsFalse}
use Rattle.std.specs.Prelude.{slice_get}
use Rattle.std.proofs.lemmas.Bool.{false≢true}
use Rattle.std.proofs.lemmas.Option.{none-some, same_Some}
use Rattle.dj_names.specs.trusted.Types.{Name}
use Rattle.dj_edge.specs.declared.host.HostAnswer.{HostAnswer}
use Rattle.dj_model.specs.trusted.Types.{Declared, Member}
use Rattle.dj_model.specs.trusted.Instructions as model
use Rattle.dj_model.specs.trusted.Instructions.{Instruction, Invoke, Mode}
use Rattle.dj_model.specs.Instructions.{calls}
use Rattle.dj_model.specs.trusted.Program.{Code, Program, Runs}
use Rattle.dj_model.specs.trusted.State.{Effect, Frame, State, Terms, Part, Next, To, Raise, Back, Flow, Goes, Catch, Stop, Call, End, instruction_at}
use Rattle.dj_model.specs.trusted.Effects as effects
use Rattle.dj_model.specs.trusted.Effects.{used_class}
use Rattle.dj_model.specs.trusted.Initialisation.{Ready, initialise, is_initialised, not_initialised}
use Rattle.dj_model.specs.trusted.Linking.{FoundMethod, option_list}
use Rattle.dj_model.specs.trusted.Runs.{empty_heap}
use Rattle.dj_model.specs.Sound.{IsProgram, IsSound}
use Rattle.dj_model.specs.Standing.{AreStanding}
use Rattle.dj_model.specs.trusted.Step.{Went, part_of, prepared, settled}
use Rattle.dj_heap.specs.Heaps.{LimitedHeap}
use Rattle.dj_stack.specs.Frames.{StackFrame, top_method, top_operands, top_room}
use Rattle.dj_natives.specs.Calls.{counting_of}
use Rattle.dj_natives.specs.Counting.{Counter}
use Rattle.dj_natives.specs.Known.{AreKnown}
use Rattle.dj_numbering.specs.Typed.{types_of}
use Rattle.dj_image.specs.Imaged.{Imaged, program_of, typed_of}
use Rattle.dj_current_method.specs.Activations.{AreActivations, frame_seen, frames_seen}
use Rattle.dj_current_method.specs.Instructions.{instruction_of_number}
use Rattle.dj_class_table.specs.Tables.{class_numbers}
use Rattle.dj_resolution.specs.Linked.{class_name}
use Rattle.dj_resolution.proofs.Resolution.{number_of_name}
use Rattle.dj_initialisation.specs.Flags.{has_begun, not_begun}
use Rattle.dj_initialisation.specs.Store.{Store}
use Rattle.dj_initialisation.specs.Waiting.{names_of}
use Rattle.dj_initialisation.proofs.FlagLaws.{waits}
use Rattle.dj_initialisation.proofs.PlaceLaws.{names_differ}
use Rattle.dj_initialisation.specs.Preparing.{with_parts}
use Rattle.dj_initialisation.specs.declared.prepare.Prepared.TheVariants as prepares
use Rattle.dj_unwinding.specs.Short.{AreShort}
use Rattle.dj_image_effects.specs.declared.acted.Acted.{Acted}
use Rattle.dj_image_effects.specs.Acting.{IsActed, Machine, machine, part_with}
use Rattle.dj_image_effects.specs.Frugal as acting
use Rattle.dj_image_effects.specs.Frugal.{HasRoomAfter}
use Rattle.dj_numbering.specs.Members.{all_methods}
use Rattle.dj_image_step.specs.Doing.{IsTop, IsUsed, PreparesNext, next_of}
use Rattle.dj_image_step.specs.Frugal.{IsFrugalActed, IsFrugalRun, IsReadyFor}
use Rattle.dj_image_step.specs.Memory.{NeedsNoMemory, makes, raises}
use Rattle.dj_image_step.specs.Running.{IsRunning, Running, account_of, state_of, terms_of}
use Rattle.dj_image_step.proofs.SoundActed.{acted_frugal, acted_ready}
use Rattle.dj_image_step.proofs.SoundFlows.{effect_went}
use Rattle.dj_image_step.specs.Short.{AreBounded}
use Rattle.dj_image_step.proofs.SoundNext.{HasRoomLeft, does_soundly, makes_no_call, sound_next}
use Rattle.dj_image_step.proofs.SoundPrepared.{ready_initialised}
use Rattle.dj_image_step.proofs.Tops.{next_is}

-- what was done in frames that stand is fit for what follows
pub ready_for : (imaged : Imaged) → IsSound (program_of imaged) imaged.prefix → (frames : List StackFrame) (i : Instruction) (st : Store) (m : Machine) → AreActivations imaged frames
    → AreStanding (program_of imaged) (frames_seen (program_of imaged) frames) → next_of imaged (frames_seen (program_of imaged) frames) ≡ Some i → (acted : Acted)
    → IsActed imaged i (machine frames st) m acted → AreKnown (types_of (typed_of imaged)) m.store.heap → IsReadyFor imaged m.store.heap m.frames acted
ready_for imaged is [] i st m stand standing next acted a known = absurd standing
ready_for imaged is (f ∷ below) i st m stand standing next acted a known = acted_ready imaged is f below i st m stand standing next acted a known

-- ---- the next instruction of a run that needs no memory

abbrev first_or : Frame Declared → List (Frame Declared) → Frame Declared
first_or other [] = other
first_or other (f ∷ frames) = f

abbrev others : List (Frame Declared) → List (Frame Declared)
others [] = []
others (f ∷ frames) = frames

-- in the frames as the machine has them
pub record IsNeeded (imaged : Imaged) (r : Running) (f : StackFrame) (below : List StackFrame) (i : Instruction) : Type 0 where
  pub instruction : Instruction
  pub instruction_is : instruction ≡ i
  pub makes_none : IsFalse (calls i)
  pub plain : IsFalse (raises (effects.effect (program_of imaged) imaged.prefix (terms_of r) (frame_seen (program_of imaged) f).method.class i (part_of (frame_seen (program_of imaged) f) (state_of imaged [] r))))
  pub next : State
  pub went : settled (program_of imaged) imaged.prefix (terms_of r) (state_of imaged [] r) (frame_seen (program_of imaged) f) (frames_seen (program_of imaged) below)
      (effects.effect (program_of imaged) imaged.prefix (terms_of r) (frame_seen (program_of imaged) f).method.class i (part_of (frame_seen (program_of imaged) f) (state_of imaged [] r))) ≡ Went next

needed : (imaged : Imaged) (r : Running) (f : StackFrame) (below : List StackFrame) (i : Instruction) → frames_seen (program_of imaged) r.parts.frames ≡ frames_seen (program_of imaged) (f ∷ below)
    → next_of imaged (frames_seen (program_of imaged) (f ∷ below)) ≡ Some i → IsFrugalRun imaged r → IsNeeded imaged r f below i
needed imaged r f below i frames next n =
    let P : Program = program_of imaged in
    let F : Frame Declared = frame_seen P f in
    let B : List (Frame Declared) = frames_seen P below in
    let s : State = state_of imaged [] r in
    let whole : F ∷ B ≡ n.top ∷ n.below = sym frames ∙ n.frames in
    let top : n.top ≡ F = sym (ap (first_or F) whole) in
    let rest : n.below ≡ B = sym (ap others whole) in
    let same : n.instruction ≡ i = same_Some n.instruction i (sym n.at ∙ (ap (instruction_at P) top ∙ next)) in
    record {
      instruction = n.instruction;
      instruction_is = same;
      makes_none = subst (λ (j : Instruction). IsFalse (calls j)) same (makes_no_call n.instruction n.makes);
      plain = subst (λ (j : Instruction). IsFalse (raises (effects.effect P imaged.prefix (terms_of r) F.method.class j (part_of F s)))) same
          (subst (λ (g : Frame Declared). IsFalse (raises (effects.effect P imaged.prefix (terms_of r) g.method.class n.instruction (part_of g s)))) top n.raises);
      next = n.next;
      went = subst (λ (j : Instruction). settled P imaged.prefix (terms_of r) s F B (effects.effect P imaged.prefix (terms_of r) F.method.class j (part_of F s)) ≡ Went n.next) same
          (subst (λ (b : List (Frame Declared)). settled P imaged.prefix (terms_of r) s F b (effects.effect P imaged.prefix (terms_of r) F.method.class n.instruction (part_of F s)) ≡ Went n.next) rest
          (subst (λ (g : Frame Declared). settled P imaged.prefix (terms_of r) s g n.below (effects.effect P imaged.prefix (terms_of r) g.method.class n.instruction (part_of g s)) ≡ Went n.next) top
          (effect_went P imaged.prefix (terms_of r) s n)));
    }

-- after it the run goes on without memory
pub frugal_for : (imaged : Imaged) → IsSound (program_of imaged) imaged.prefix → AreShort imaged → (r : Running) → IsRunning imaged r → (i : Instruction)
    → next_of imaged (frames_seen (program_of imaged) r.parts.frames) ≡ Some i → (m : Machine) (acted : Acted) → IsActed imaged i (machine r.parts.frames r.parts.store) m acted → IsFrugalRun imaged r
    → IsFrugalActed imaged m.store.heap m.frames acted
frugal_for imaged is short r running i next m acted a n = by r.parts.frames running next a n where
  by : (fs : List StackFrame) → IsRunning imaged (record r { parts = record r.parts { frames = fs } }) → next_of imaged (frames_seen (program_of imaged) fs) ≡ Some i
      → IsActed imaged i (machine fs r.parts.store) m acted → IsFrugalRun imaged (record r { parts = record r.parts { frames = fs } }) → IsFrugalActed imaged m.store.heap m.frames acted
  by [] running next a n = absurd running.standing
  by (f ∷ below) running next a n =
      let own : Running = record r { parts = record r.parts { frames = f ∷ below } } in
      let k = needed imaged own f below i refl next n in
      acted_frugal imaged is f below i r.parts.store m running.activations running.standing next short (terms_of own) (state_of imaged [] own) k.next refl (account_of r.counter) [] refl k.plain k.went
      k.makes_none acted a

-- it is no call
pub never_called : (imaged : Imaged) (r : Running) (method number : ℕ) (mode : Mode) (member : Member) → IsTop imaged r.parts.frames method number
    → instruction_of_number imaged method number ≡ Some (Invoke mode member) → IsFrugalRun imaged r → ⊥
never_called imaged r method number mode member top at n = by r.parts.frames refl (next_is imaged r.parts.frames method number top ∙ at) where
  by : (fs : List StackFrame) → r.parts.frames ≡ fs → next_of imaged (frames_seen (program_of imaged) fs) ≡ Some (Invoke mode member) → ⊥
  by [] e next = none-some (Invoke mode member) next
  by (f ∷ below) e next = false≢true (sym (needed imaged r f below (Invoke mode member) (ap (frames_seen (program_of imaged)) e) next n).makes_none)

-- ---- the initialisation before it

abbrev bare_with : Option Counter → State
bare_with c = record { heap = empty_heap; statics = []; initialised = []; literals = []; frames = []; account = account_of c; answers = [] }

module _ (imaged : Imaged) (old new : Running) (n : IsFrugalRun imaged old) (is : PreparesNext imaged old new prepares.Ready) where
  abbrev P : Program
  P = program_of imaged

  next : next_of imaged (frames_seen P old.parts.frames) ≡ Some n.instruction
  next = ap (next_of imaged) n.frames ∙ n.at

  -- it changes nothing
  same_parts : with_parts imaged new.parts (bare_with old.counter) ≡ state_of imaged [] old
  same_parts =
      let reported : Ready (with_parts imaged new.parts (bare_with old.counter)) ≡ Ready (state_of imaged [] old) = sym (is.effect n.instruction (terms_of old) (bare_with old.counter) next refl) ∙ n.ready in
      let same : with_parts imaged new.parts (bare_with old.counter) ≡ state_of imaged [] old = cc in
      same

  same_states : state_of imaged [] new ≡ state_of imaged [] old
  same_states = ap (λ (c : Option Counter). with_parts imaged new.parts (bare_with c)) is.counter ∙ same_parts

  same_terms : terms_of new ≡ terms_of old
  same_terms = λ k. record { limit = Some (is.limit k); counting = counting_of (is.counter k) }

  pub still_frugal : IsFrugalRun imaged new
  still_frugal = subst (λ (s : State). NeedsNoMemory P imaged.prefix (terms_of new) s) (sym same_states) (subst (λ (t : Terms). NeedsNoMemory P imaged.prefix t (state_of imaged [] old)) (sym same_terms) n)

-- by the number of a class
begun_at : (program : Program) → IsProgram program → (flags : List Bool) (class : ℕ) → class < length program → is_initialised program flags (class_name program class) ≡ true → has_begun flags class ≡ true
begun_at program formed flags class less set = by (has_begun flags class) refl where
  name : Name
  name = class_name program class

  none : not_initialised program flags (name ∷ []) ≡ []
  none = rw set refl

  numbers : class_numbers program (name ∷ []) ≡ class ∷ []
  numbers = ap (λ (o : Option ℕ). option_list o ++ []) (number_of_name program class (names_differ program formed) less)

  by : (b : Bool) → has_begun flags class ≡ b → has_begun flags class ≡ true
  by true e = e
  by false e =
      let one : not_begun flags (class ∷ []) ≡ class ∷ [] = rw e refl in
      let some : [] ≡ name ∷ [] = sym none ∙ (waits program flags (name ∷ []) ∙ (ap (λ (ks : List ℕ). names_of program (not_begun flags ks)) numbers ∙ ap (names_of program) one)) in
      absurd cc

-- the class that it uses was initialised before
pub was_begun : (imaged : Imaged) → IsProgram (program_of imaged) → (r : Running) (method number class : ℕ) → IsTop imaged r.parts.frames method number
    → ((i : Instruction) → instruction_of_number imaged method number ≡ Some i → IsUsed imaged i (Some class)) → IsFrugalRun imaged r → has_begun r.parts.flags class ≡ true
was_begun imaged formed r method number class top used n =
    let P : Program = program_of imaged in
    let s : State = state_of imaged [] r in
    let at : instruction_of_number imaged method number ≡ Some n.instruction = sym (next_is imaged r.parts.frames method number top) ∙ (ap (next_of imaged) n.frames ∙ n.at) in
    let u = used n.instruction at in
    let ready : initialise P imaged.prefix (terms_of r) (class_name P class) s ≡ Ready s =
    sym (ap (λ (o : Option Name). prepared P imaged.prefix (terms_of r) o s) u.1) ∙ n.ready in
    begun_at P formed r.parts.flags class u.0 (ready_initialised P imaged.prefix (terms_of r) (class_name P class) s s ready refl)

pub never_waits : (imaged : Imaged) → IsProgram (program_of imaged) → (r : Running) (method number class : ℕ) → IsTop imaged r.parts.frames method number
    → ((i : Instruction) → instruction_of_number imaged method number ≡ Some i → IsUsed imaged i (Some class)) → has_begun r.parts.flags class ≡ false → IsFrugalRun imaged r → ⊥
never_waits imaged formed r method number class top used waits n = false≢true (sym waits ∙ was_begun imaged formed r method number class top used n)

record TopActivation (imaged : Imaged) (frames : List StackFrame) : Type 0 where
  found : FoundMethod
  there : slice_get (all_methods (program_of imaged)) (top_method frames) ≡ Some found
  code : Code
  runs : found.method.body ≡ Runs code

top_activation : (imaged : Imaged) (frames : List StackFrame) → AreActivations imaged frames → 0 < length frames → TopActivation imaged frames
top_activation imaged [] stand some = absurd (omega (arith, some))
top_activation imaged (f ∷ below) stand some = record { found = stand.0.found; there = stand.0.there; code = stand.0.code; runs = stand.0.runs }

-- ---- what is done of it

-- the instruction makes nothing, in the words of what acts
acting_none : (i : Instruction) → IsFalse (makes i) → IsFalse (acting.makes i)
acting_none (model.PushText units) none = none
acting_none (model.New class) none = none
acting_none (model.NewArray class element) none = none
acting_none (model.Invoke mode m) none = none
acting_none i none = refl

pub next_makes_none : (imaged : Imaged) (r : Running) (method number : ℕ) → IsTop imaged r.parts.frames method number → IsFrugalRun imaged r
    → (i : Instruction) × (instruction_of_number imaged method number ≡ Some i) × IsFalse (acting.makes i)
next_makes_none imaged r method number top n =
    (n.instruction, sym (next_is imaged r.parts.frames method number top) ∙ (ap (next_of imaged) n.frames ∙ n.at), acting_none n.instruction n.makes)

room_after : (room : ℕ) (p : Part) (flow : Flow) → HasRoomLeft room p flow → HasRoomAfter room p.operands flow
room_after room p (Goes Next) fits = fits
room_after room p (Goes (To number)) fits = fits
room_after room p (Goes (Raise raised)) fits = tt
room_after room p (Goes (Back value)) fits = tt
room_after room p (Catch exception) fits = tt
room_after room p Stop fits = tt
room_after room p (Call m arguments) fits = tt
room_after room p (End outcome) fits = tt

pub acting_frugal : (imaged : Imaged) → IsSound (program_of imaged) imaged.prefix → (r : Running) (method number : ℕ) (i : Instruction) → IsRunning imaged r → IsTop imaged r.parts.frames method number
    → instruction_of_number imaged method number ≡ Some i → IsFalse (acting.makes i) → acting.IsFrugal imaged i (machine r.parts.frames r.parts.store)
acting_frugal imaged is r method number i running top at none =
    let m : Machine = machine r.parts.frames r.parts.store in
    let next = sound_next imaged is r.parts.frames i running.activations running.standing (next_is imaged r.parts.frames method number top ∙ at) in
    let does = does_soundly imaged is r.parts.frames i next (terms_of r) [] (part_with imaged m (top_operands r.parts.frames) (account_of r.counter) []) refl refl (calls_none i none) in
    record {
      makes = none;
      terms = terms_of r;
      own = [];
      account = account_of r.counter;
      answers = [];
      limit = refl;
      does = does.effect.does;
      has = does.effect.has;
      room = room_after (top_room r.parts.frames) does.effect.does.part does.effect.does.flow does.room;
    } where
      calls_none : (i : Instruction) → IsFalse (acting.makes i) → IsFalse (calls i)
      calls_none (model.Invoke mode m) none = absurd (false≢true (sym none))
      calls_none i none = refl

-- literals of the top frame's code are loaded by known opcodes
pub loads_at : (imaged : Imaged) → AreBounded imaged → (r : Running) (method number : ℕ) → IsRunning imaged r → IsTop imaged r.parts.frames method number → acting.LoadsByKnown imaged method number
loads_at imaged bounded r method number running top =
    let act = top_activation imaged r.parts.frames running.activations top.some in
    let there : slice_get (all_methods (program_of imaged)) method ≡ Some act.found = ap (slice_get (all_methods (program_of imaged))) top.method_is ∙ act.there in
    (bounded method act.found act.code there act.runs).loads number
