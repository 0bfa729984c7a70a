-- The start of the metered run, and of the plain run of the rewritten program.
use Rattle.std.proofs.Common.{◌≡◌, ℕ, Bool, false, List, [], ◌∷◌, refl, ap, ◌∙◌, if◌then◌else◌, true, arith}
use Rattle.std.proofs.lemmas.List.{length-map}
use Rattle.dj_names.specs.declared.descriptor.Ty.{Ty}
use Rattle.dj_names.specs.declared.run.Value.TheVariants as values
use Rattle.dj_names.specs.declared.run.Outcome.TheVariants as outcomes
use Rattle.dj_names.specs.trusted.Heaps.{Heap, object_size}
use Rattle.dj_names.specs.Heaps.{heap_map}
use Rattle.dj_names.specs.Types.{in_sandbox, sandbox_prefix, type_map}
use Rattle.dj_edge.specs.declared.host.HostAnswer.{HostAnswer}
use Rattle.dj_model.specs.trusted.Types.{Declared}
use Rattle.dj_model.specs.Types.{declared_map}
use Rattle.dj_model.specs.trusted.Program.{Program}
use Rattle.dj_model.specs.Program.{class_map}
use Rattle.dj_model.specs.trusted.Linking.{static_count}
use Rattle.dj_model.specs.trusted.State.{Terms, State}
use Rattle.dj_model.specs.trusted.Arrays.{passes_limit}
use Rattle.dj_model.specs.trusted.Initialisation.{Initialised, Ready, Waits, Fails, initialise}
use Rattle.dj_model.specs.trusted.Step.{Ended}
use Rattle.dj_model.specs.trusted.Runs.{input_array, empty_heap, input_heap, start_state, begun, begin}
use Rattle.dj_model.proofs.MappedNames as names
use Rattle.dj_model.proofs.NameMaps.{sandbox_map}
use Rattle.dj_groups.specs.Rewritten.{rewritten_code}
use Rattle.dj_sim.specs.Simulation.{HasObject, state_image, initialised_image, answer_image}
use Rattle.dj_sim.proofs.Acts.{other, new_frame_image}
use Rattle.dj_sim.proofs.Initialising.{initialises}

module _ (program : Program) where
  statics_alike : static_count (other program) ≡ static_count program
  statics_alike = omega (arith, names.static_count_alike in_sandbox (rewritten_code program) [] sandbox_prefix sandbox_map program)

  start_image : (entry : Declared) (heap : Heap Ty) (answers : List HostAnswer)
      → start_state (other program) (declared_map in_sandbox entry) (heap_map (type_map in_sandbox) heap) answers ≡ state_image program false (start_state program entry heap answers)
  start_image entry heap answers =
      rw (new_frame_image program entry (values.Ref 1 ∷ []), statics_alike, length-map program (class_map in_sandbox (rewritten_code program))) refl

  begun_image : (i : Initialised) → begun (initialised_image program false i) ≡ answer_image program false (begun i)
  begun_image (Ready s) = refl
  begun_image (Waits s) = refl
  begun_image (Fails outcome s) = refl

  pub begins : HasObject program → (terms : Terms) (entry : Declared) (input : List ℕ) (answers : List HostAnswer)
      → begin (other program) sandbox_prefix terms (declared_map in_sandbox entry) input answers ≡ answer_image program false (begin program [] terms entry input answers)
  unfolding begin
  begins base terms entry input answers = go (passes_limit terms.limit (object_size (input_array input))) where
    go : (b : Bool)
        → (if b then Ended (outcomes.HeapFull 0 (object_size (input_array input))) (start_state (other program) (declared_map in_sandbox entry) empty_heap answers)
        else begun (initialise (other program) sandbox_prefix terms (in_sandbox entry.class) (start_state (other program) (declared_map in_sandbox entry) (input_heap input) answers)))
        ≡ answer_image program false (if b then Ended (outcomes.HeapFull 0 (object_size (input_array input))) (start_state program entry empty_heap answers)
        else begun (initialise program [] terms entry.class (start_state program entry (input_heap input) answers)))
    go true = ap (Ended (outcomes.HeapFull 0 (object_size (input_array input)))) (start_image entry empty_heap answers)
    go false =
        ap (λ (s : State). begun (initialise (other program) sandbox_prefix terms (in_sandbox entry.class) s)) (start_image entry (input_heap input) answers)
        ∙ (ap begun (initialises program base terms false entry.class (start_state program entry (input_heap input) answers))
        ∙ begun_image (initialise program [] terms entry.class (start_state program entry (input_heap input) answers)))
