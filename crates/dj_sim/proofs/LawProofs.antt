-- The laws of single turns, of the rewritten program.
use Rattle.std.proofs.Common.{◌≡◌, suc, ◌*◌, List, ◌∷◌, length, map, Some}
use Rattle.dj_names.specs.declared.descriptor.Ty.{Ty}
use Rattle.dj_names.specs.declared.run.Charge.{Charge}
use Rattle.dj_names.specs.declared.run.Outcome.TheVariants as outcomes
use Rattle.dj_names.specs.declared.run.Thresholds.{Thresholds}
use Rattle.dj_names.specs.trusted.Heaps.{Heap}
use Rattle.dj_names.specs.Heaps.{heap_map}
use Rattle.dj_names.specs.Types.{in_sandbox, sandbox_prefix, type_map}
use Rattle.dj_model.specs.trusted.Types.{Declared}
use Rattle.dj_model.specs.trusted.Program.{Program}
use Rattle.dj_model.specs.trusted.State.{Frame, State}
use Rattle.dj_model.specs.trusted.Step.{stop_from, throw_stop_or}
use Rattle.dj_groups.specs.Rewritten.{rewritten}
use Rattle.dj_sim.specs.Laws.{Begins, Counts, SoundActs, SoundPays}
use Rattle.dj_sim.specs.Simulation.{HasObject, AreHandlersWithin, AreOriginal, frame_image, plain_terms, EndsWithin, with_stop}
use Rattle.dj_sim.proofs.Beginning.{begins as begins_law}
use Rattle.dj_sim.proofs.CountedSteps.{begin_same, step_counts}
use Rattle.dj_sim.proofs.Payments.{thrown_leaves, originals}
use Rattle.dj_sim.proofs.SoundTurns.{standing_acts, few_inserted, handlers_within, standing_pays}

pub begins : Begins
unfolding rewritten
begins program base terms entry input answers = begins_law program base terms entry input answers

pub counts : Counts
counts = record { begins = begin_same; steps = step_counts }

pub sound_acts : SoundActs
unfolding rewritten
sound_acts program sound quiet base most touched s standing acting = standing_acts program sound base quiet most touched s standing acting

pub sound_pays : SoundPays
unfolding rewritten
sound_pays = record {
  pays = λ program sound base most touched s x below frames standing unpaid objects. standing_pays program sound base most touched s x below frames standing unpaid objects;
  few = few_inserted;
  handlers = handlers_within;
}

pub stop_leaves : (program : Program) → HasObject program → AreHandlersWithin program → (most : Thresholds) (r : State) (y : Frame Declared) (ys : List (Frame Declared)) (charge : Charge) (before : Heap Ty)
    → r.heap ≡ heap_map (type_map in_sandbox) before → AreOriginal (y ∷ ys) → r.account.exceeded ≡ Some charge
    → EndsWithin (rewritten program) most (2 * suc (length ys))
    (throw_stop_or (rewritten program) sandbox_prefix (plain_terms most) (record r { frames = y ∷ ys }) (stop_from sandbox_prefix 1 r.heap.objects)) (outcomes.Stopped charge) (with_stop r)
unfolding rewritten
stop_leaves program base handled most r y ys charge before heap_is original over = thrown_leaves program base most handled r y ys charge before heap_is original over

pub all_original : (program : Program) → HasObject program → AreHandlersWithin program → Thresholds → (frames : List (Frame Declared)) → AreOriginal (map (frame_image program) frames)
all_original program base handled most frames = originals program base most handled frames
