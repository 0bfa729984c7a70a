-- What is reported, and what follows an effect, by plain values.
use Rattle.std.proofs.Common.{◌≡◌, [], ◌∷◌, Some, None, refl}
use Rattle.dj_names.specs.declared.run.Message.TheVariants as messages
use Rattle.dj_names.specs.declared.run.Outcome.TheVariants as outcomes
use Rattle.dj_names.specs.trusted.Heaps.{Instance, Text}
use Rattle.dj_model.specs.trusted.State.{State}
use Rattle.dj_model.specs.trusted.Charging.{new_account}
use Rattle.dj_model.specs.trusted.Step.{Went, Ended, IllFormed}
use Rattle.dj_model.specs.trusted.Runs.{empty_heap}
use Rattle.dj_heap.specs.Heaps.{LimitedHeap}
use Rattle.dj_image.specs.Imaged.{Imaged}
use Rattle.dj_settling.specs.Reported.{On, Over, Nowhere, reported_of}
use Rattle.dj_settling.specs.Settling.{IsStop, left_outcome, message_at, stop_number_from}

abbrev image : Imaged
image = record { sources = []; prefix = []; arrays = []; texts = [] }

abbrev state : State
state = record { heap = empty_heap; statics = []; initialised = []; literals = []; frames = []; account = new_account; answers = [] }

-- ---- what is reported

says : (reported_of (Went state) ≡ On state) × (reported_of (Ended outcomes.OkNull state) ≡ Over outcomes.OkNull new_account []) × (reported_of IllFormed ≡ Nowhere)
says = (refl, refl, refl)

-- ---- a heap of a text, and exceptions of class 5 with it as message, with it as cause, and without both

abbrev heap : LimitedHeap
heap = record {
  heap = record { objects = Text 4 (104 ∷ []) ∷ Instance 5 (1 ∷ 0 ∷ []) ∷ Instance 6 (0 ∷ 1 ∷ []) ∷ Instance 5 (0 ∷ 0 ∷ []) ∷ []; used = 0 };
  limit = 0;
}

messages_are : (message_at heap 2 ≡ messages.Text (104 ∷ [])) × (message_at heap 3 ≡ messages.Null) × (message_at heap 4 ≡ messages.Null)
messages_are = (refl, refl, refl)

init_is_no_throw : (left_outcome image heap 5 2 (Some 0) ≡ left_outcome image heap 5 2 None) → ⊥
init_is_no_throw e = absurd cc

first_of_class : (stop_number_from 5 1 heap.heap.objects ≡ Some 2) × (stop_number_from 6 1 heap.heap.objects ≡ Some 3) × (stop_number_from 7 1 heap.heap.objects ≡ None)
first_of_class = (refl, refl, refl)

-- of 0 nothing is required
unreported : IsStop image heap 0
unreported some = absurd (some refl)
