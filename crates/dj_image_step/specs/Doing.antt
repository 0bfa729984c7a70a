-- What the parts of a step answer.
use Rattle.std.specs.Prelude.{◌≡◌, ℕ, ◌<◌, ⊤, List, [], ◌∷◌, ◌++◌, length, Option, Some, None}
use Rattle.dj_names.specs.declared.run.Charge.{Charge}
use Rattle.dj_edge.specs.declared.host.HostAnswer.{HostAnswer}
use Rattle.dj_model.specs.trusted.Types.{Declared}
use Rattle.dj_model.specs.trusted.Instructions.{Instruction}
use Rattle.dj_model.specs.trusted.State.{Terms, Frame, State, Flow, instruction_at}
use Rattle.dj_model.specs.trusted.Effects.{effect, used_class}
use Rattle.dj_model.specs.trusted.Step.{StepAnswer, IllFormed, part_of, settled, prepared, step}
use Rattle.dj_heap.specs.Heaps.{LimitedHeap}
use Rattle.dj_stack.specs.Frames.{StackFrame, top_method, top_number}
use Rattle.dj_natives.specs.Calls.{counting_of}
use Rattle.dj_natives.specs.Known.{AreKnown}
use Rattle.dj_numbering.specs.Members.{all_methods}
use Rattle.dj_numbering.specs.Typed.{types_of}
use Rattle.dj_image.specs.Imaged.{Imaged, program_of, typed_of}
use Rattle.dj_resolution.specs.Linked.{class_name}
use Rattle.dj_current_method.specs.Activations.{AreActivations, frames_seen}
use Rattle.dj_current_method.specs.Instructions.{HasInstruction, instruction_of_number}
use Rattle.dj_initialisation.specs.declared.prepare.Prepared.{Prepared}
use Rattle.dj_initialisation.specs.Flags.{AreFlags}
use Rattle.dj_initialisation.specs.Store.{IsStore}
use Rattle.dj_initialisation.specs.Preparing.{prepared_reported, with_parts}
use Rattle.dj_image_effects.specs.declared.acted.Acted.{Acted}
use Rattle.dj_image_effects.specs.Acting.{flow_reported}
use Rattle.dj_settling.specs.declared.settled.Settled.{Settled}
use Rattle.dj_settling.specs.Reported.{reported_of}
use Rattle.dj_settling.specs.Settling.{KeepsStop, Settles, settled_reported, top_settled}
use Rattle.dj_image_step.specs.Running.{Counts, Running, state_of, terms_of}

-- ---- in the model

abbrev pub stepping : Imaged → Terms → State → StepAnswer
stepping imaged terms s = step (program_of imaged) imaged.prefix terms s

-- the effect of the instruction on the top one of these frames, and what follows it
abbrev pub doing_on : Imaged → Instruction → Terms → State → List (Frame Declared) → StepAnswer
doing_on imaged i terms s [] = IllFormed
doing_on imaged i terms s (f ∷ below) = settled (program_of imaged) imaged.prefix terms s f below (effect (program_of imaged) imaged.prefix terms f.method.class i (part_of f s))

abbrev pub doing : Imaged → Instruction → Terms → State → StepAnswer
doing imaged i terms s = doing_on imaged i terms s s.frames

-- the instruction that is next
abbrev pub next_of : Imaged → List (Frame Declared) → Option Instruction
next_of imaged [] = None
next_of imaged (f ∷ below) = instruction_at (program_of imaged) f

abbrev pub doing_some : Imaged → Terms → State → Option Instruction → StepAnswer
doing_some imaged terms s None = IllFormed
doing_some imaged terms s (Some i) = doing imaged i terms s

-- what doing the next instruction gives, where its class is initialised
abbrev pub doing_next : Imaged → Terms → State → StepAnswer
doing_next imaged terms s = doing_some imaged terms s (next_of imaged s.frames)

-- ---- what holds of a run whose frames may stand otherwise

pub record IsStill (imaged : Imaged) (r : Running) : Type 0 where
  pub flags : AreFlags (program_of imaged) r.parts.flags
  pub store : IsStore imaged r.parts.store
  pub activations : AreActivations imaged r.parts.frames
  pub known : AreKnown (types_of (typed_of imaged)) r.parts.store.heap
  pub counts : Counts imaged.prefix r.counter

-- the top frame is at the instruction of this number in the method of this number
pub record IsTop (imaged : Imaged) (frames : List StackFrame) (method number : ℕ) : Type 0 where
  pub some : 0 < length frames
  pub method_is : method ≡ top_method frames
  pub number_is : number ≡ top_number frames
  pub there : method < length (all_methods (program_of imaged))
  pub stands : HasInstruction imaged method number

-- ---- what is answered

-- the model answers this, where what the host gave comes first among its answers, whatever the others are; and this holds of the run then
pub record TurnsBy (imaged : Imaged) (answer : Terms → State → StepAnswer) (old new : Running) (gave : List HostAnswer) (settled : Settled) : Type 0 where
  pub says : (rest : List HostAnswer) → reported_of (answer (terms_of old) (state_of imaged (gave ++ rest) old)) ≡ settled_reported settled (state_of imaged rest new)
  pub limit : new.parts.store.heap.limit ≡ old.parts.store.heap.limit
  pub counting : counting_of new.counter ≡ counting_of old.counter
  pub still : IsStill imaged new
  pub stop : KeepsStop imaged new.parts.store.heap old.stop new.stop

-- the class that the instruction uses, by its number
abbrev pub IsUsed : Imaged → Instruction → Option ℕ → Type 0
IsUsed imaged i None = used_class (program_of imaged) imaged.prefix i ≡ None
IsUsed imaged i (Some k) = (k < length (program_of imaged)) × (used_class (program_of imaged) imaged.prefix i ≡ Some (class_name (program_of imaged) k))

-- the class that the next instruction uses is initialised, or its initialisers stand above, or the run has ended
pub record PreparesNext (imaged : Imaged) (old new : Running) (result : Prepared) : Type 0 where
  pub effect : (i : Instruction) (terms : Terms) (s : State) → next_of imaged (frames_seen (program_of imaged) old.parts.frames) ≡ Some i
      → terms.limit ≡ Some old.parts.store.heap.limit
      → prepared (program_of imaged) imaged.prefix terms (used_class (program_of imaged) imaged.prefix i) (with_parts imaged old.parts s)
      ≡ prepared_reported result (with_parts imaged new.parts s)
  pub limit : new.parts.store.heap.limit ≡ old.parts.store.heap.limit
  pub still : IsStill imaged new
  pub counter : new.counter ≡ old.counter
  pub stop : new.stop ≡ old.stop

-- ---- used by the code alone: what follows an instruction that was done

-- what follows an instruction's flow; without a flow nothing does
abbrev pub FlowSettles : Imaged → Option Charge → Option Flow → LimitedHeap → LimitedHeap → List StackFrame → List StackFrame → Settled → Type 0
FlowSettles imaged exceeded None before after old new result = ⊥
FlowSettles imaged exceeded (Some flow) before after old new result =
    Settles imaged exceeded (top_settled (program_of imaged) imaged.prefix flow) before after old new result

abbrev pub ActedSettles : Imaged → Option Charge → Acted → LimitedHeap → LimitedHeap → List StackFrame → List StackFrame → Settled → Type 0
ActedSettles imaged exceeded acted before after old new result = FlowSettles imaged exceeded (flow_reported acted) before after old new result
