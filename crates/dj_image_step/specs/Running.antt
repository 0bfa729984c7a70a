-- What a run over an image keeps, and what holds of it.
use Rattle.std.specs.Prelude.{◌≡◌, ℕ, ⊤, List, [], ◌∷◌, Option, Some, None, slice_get}
use Rattle.dj_names.specs.trusted.Types.{class_type}
use Rattle.dj_edge.specs.declared.host.HostAnswer.{HostAnswer}
use Rattle.dj_model.specs.trusted.Types.{Prefix, throwable_name}
use Rattle.dj_model.specs.Sound.{IsSound}
use Rattle.dj_model.specs.Standing.{AreStanding}
use Rattle.dj_model.specs.trusted.State.{State, Account, Terms}
use Rattle.dj_model.specs.trusted.Charging.{new_account}
use Rattle.dj_model.specs.trusted.Runs.{empty_heap}
use Rattle.dj_natives.specs.Counting.{Counter}
use Rattle.dj_natives.specs.Calls.{counting_of}
use Rattle.dj_natives.specs.Known.{AreKnown}
use Rattle.dj_numbering.specs.Typed.{types_of}
use Rattle.dj_image.specs.Imaged.{Imaged, program_of, typed_of}
use Rattle.dj_current_method.specs.Activations.{frames_seen, AreActivations}
use Rattle.dj_initialisation.specs.declared.initialisers.Initialiser.{Initialiser}
use Rattle.dj_initialisation.specs.Flags.{AreFlags}
use Rattle.dj_initialisation.specs.Places.{Places, ArePlaces}
use Rattle.dj_initialisation.specs.Initialisers.{AreInitialisers}
use Rattle.dj_initialisation.specs.Store.{AreTexts, IsStore}
use Rattle.dj_initialisation.specs.Preparing.{Parts, with_parts}
use Rattle.dj_invocation.specs.Natives.{AreNatives}
use Rattle.dj_settling.specs.Settling.{HasOwn, IsStop}
use Rattle.dj_image_step.specs.Short.{AreBounded}

-- ---- what is made once of an image

pub record Kept : Type 0 where
  -- of each static field its place
  pub places : Places
  -- of each class its initialiser
  pub initialisers : List (Option Initialiser)
  -- of each native method the classes of its parameters
  pub natives : List (List (Option ℕ))
  -- the class Throwable
  pub throwable : ℕ

pub record IsKept (imaged : Imaged) (kept : Kept) : Type 0 where
  pub sound : IsSound (program_of imaged) imaged.prefix
  pub own : HasOwn imaged
  pub texts : AreTexts imaged
  pub bounded : AreBounded imaged
  pub places : ArePlaces (program_of imaged) kept.places
  pub initialisers : AreInitialisers imaged kept.initialisers
  pub natives : AreNatives imaged kept.natives
  pub throwable : slice_get (types_of (typed_of imaged)) kept.throwable ≡ Some (class_type (throwable_name imaged.prefix))

-- ---- what changes

pub record Running : Type 0 where
  pub parts : Parts
  -- who counts
  pub counter : Option Counter
  -- the number of the object that stops the run, once it was thrown, and 0 before
  pub stop : ℕ

-- in the model

abbrev pub account_of : Option Counter → Account
account_of None = new_account
account_of (Some c) = c.account

abbrev pub terms_of : Running → Terms
terms_of r = record { limit = Some r.parts.store.heap.limit; counting = counting_of r.counter }

-- the state, with these answers of the host left
abbrev pub state_of : Imaged → List HostAnswer → Running → State
state_of imaged answers r = with_parts imaged r.parts (record {
  heap = empty_heap;
  statics = [];
  initialised = [];
  literals = [];
  frames = [];
  account = account_of r.counter;
  answers = answers;
})

-- rewritten classes have an accounter, and others have none
abbrev pub Counts : Prefix → Option Counter → Type 0
Counts [] None = ⊤
Counts (byte ∷ prefix) (Some c) = ⊤
Counts prefix counter = ⊥

-- a run that goes on
pub record IsRunning (imaged : Imaged) (r : Running) : Type 0 where
  pub flags : AreFlags (program_of imaged) r.parts.flags
  pub store : IsStore imaged r.parts.store
  pub activations : AreActivations imaged r.parts.frames
  pub standing : AreStanding (program_of imaged) (frames_seen (program_of imaged) r.parts.frames)
  pub known : AreKnown (types_of (typed_of imaged)) r.parts.store.heap
  pub stop : IsStop imaged r.parts.store.heap r.stop
  pub counts : Counts imaged.prefix r.counter
