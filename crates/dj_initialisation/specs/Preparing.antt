-- The initialisation of classes at a use, by what a machine keeps.
use Rattle.std.specs.Prelude.{◌≡◌, ℕ, ◌+◌, ◌<◌, ◌≤◌, Bool, List, length, Option, Some}
use Rattle.dj_names.specs.declared.run.Outcome.TheVariants as outcomes
use Rattle.dj_model.specs.trusted.State.{State, Terms}
use Rattle.dj_model.specs.trusted.Initialisation.{Initialised, Ready, Waits, Fails, initialise}
use Rattle.dj_stack.specs.Frames.{StackFrame}
use Rattle.dj_resolution.specs.Linked.{class_name}
use Rattle.dj_image.specs.Imaged.{Imaged, program_of}
use Rattle.dj_current_method.specs.Activations.{frames_seen, AreActivations}
use Rattle.dj_initialisation.specs.declared.prepare.Prepared.{Prepared}
use Rattle.dj_initialisation.specs.declared.prepare.Prepared.TheVariants as prepared
use Rattle.dj_initialisation.specs.declared.initialisers.Initialiser.{Initialiser}
use Rattle.dj_initialisation.specs.Flags.{AreFlags}
use Rattle.dj_initialisation.specs.Initialisers.{initialiser_count, pushed}
use Rattle.dj_initialisation.specs.Store.{Store, IsStore, stored}

-- what an initialisation may change of a machine
pub record Parts : Type 0 where
  pub flags : List Bool
  pub store : Store
  pub frames : List StackFrame

abbrev pub parts : List Bool → Store → List StackFrame → Parts
parts flags store frames = record { flags = flags; store = store; frames = frames }

-- a state with them
abbrev pub with_parts : Imaged → Parts → State → State
with_parts imaged p s = stored imaged p.store (record s { initialised = p.flags; frames = frames_seen (program_of imaged) p.frames })

abbrev pub prepared_reported : Prepared → State → Initialised
prepared_reported prepared.Ready s = Ready s
prepared_reported prepared.Waits s = Waits s
prepared_reported prepared.TooDeep s = Fails outcomes.TooDeep s
prepared_reported (prepared.HeapFull used size) s = Fails (outcomes.HeapFull used size) s

-- the model's initialisation of the class is this, and leaves this state
pub record Prepares (imaged : Imaged) (class : ℕ) (before after : Parts) (result : Prepared) : Type 0 where
  pub effect : (terms : Terms) (s : State) → terms.limit ≡ Some before.store.heap.limit
      → initialise (program_of imaged) imaged.prefix terms (class_name (program_of imaged) class) (with_parts imaged before s) ≡ prepared_reported result (with_parts imaged after s)
  pub limit : after.store.heap.limit ≡ before.store.heap.limit
  pub are : IsStore imaged after.store
  pub flags : AreFlags (program_of imaged) after.flags
  pub frames : AreActivations imaged before.frames → AreActivations imaged after.frames

-- ---- used by the code alone: frames alone

abbrev pub left_of : Prepared → List StackFrame → List StackFrame → List StackFrame
left_of prepared.Waits pushed old = pushed
left_of result pushed old = old

-- with this many frames of initialisers on top of this many frames
abbrev pub IsCause : ℕ → ℕ → Prepared → Type 0
IsCause count depth prepared.Ready = count ≡ 0
IsCause count depth prepared.Waits = (0 < count) × (count + depth ≤ 1024)
IsCause count depth prepared.TooDeep = (0 < count) × (1024 < count + depth)
IsCause count depth (prepared.HeapFull used size) = ⊥

-- the frames of these classes' initialisers are pushed, where there are some and the frames aren't too many
pub record Pushes (each : List (Option Initialiser)) (classes : List ℕ) (old new : List StackFrame) (result : Prepared) : Type 0 where
  pub frames : new ≡ left_of result (pushed each classes old) old
  pub cause : IsCause (initialiser_count each classes) (length old) result
