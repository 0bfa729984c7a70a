-- A whole plain run in a program with other names of classes is the run in the program, with other names.
use Rattle.std.proofs.Common.{◌≡◌, ℕ, zero, suc, List, [], ◌∷◌, refl, ap, ◌∙◌, inl, inr}
use Rattle.std.proofs.lemmas.List.{length-map}
use Rattle.std.specs.Option.{option_map}
use Rattle.dj_names.specs.declared.run.Value.TheVariants as values
use Rattle.dj_names.specs.declared.run.Outcome.TheVariants as outcomes
use Rattle.dj_names.specs.declared.descriptor.Ty.{Ty}
use Rattle.dj_names.specs.trusted.Heaps.{Heap, object_size}
use Rattle.dj_names.specs.Heaps.{heap_map}
use Rattle.dj_names.specs.trusted.Types.{Name}
use Rattle.dj_names.specs.Types.{type_map}
use Rattle.dj_edge.specs.declared.host.HostAnswer.{HostAnswer}
use Rattle.dj_model.specs.trusted.Types.{Prefix, Declared}
use Rattle.dj_model.specs.Types.{declared_map}
use Rattle.dj_model.specs.trusted.Program.{Program}
use Rattle.dj_model.specs.Program.{code_map, class_map}
use Rattle.dj_model.specs.trusted.State.{Terms, State}
use Rattle.dj_model.specs.State.{state_map}
use Rattle.dj_model.specs.trusted.Arrays.{passes_limit}
use Rattle.dj_model.specs.trusted.Initialisation.{Initialised, Ready, Waits, Fails, initialise}
use Rattle.dj_model.specs.trusted.Step.{StepAnswer, Went, Ended, IllFormed, step}
use Rattle.dj_model.specs.trusted.Runs.{input_array, empty_heap, input_heap, start_state, begun, begin, Ran, Going, Finished, NoStep, one_more, then_steps, steps, from_start, report_of, plain_run}
use Rattle.dj_model.specs.Mapping.{IsNameMap, KeepsStop, outcome_map, initialised_map, answer_map, report_map}
use Rattle.dj_model.proofs.MappedNames as names
use Rattle.dj_model.proofs.MappedNames.{either}
use Rattle.dj_model.proofs.MappedSteps as stepping

abbrev ran_map : (Name → Name) → Ran → Ran
ran_map f (Going s) = Going (state_map f s)
ran_map f (Finished outcome s n) = Finished (outcome_map f outcome) (state_map f s) n
ran_map f NoStep = NoStep

module _ (f : Name → Name) (p q : Prefix) (is : IsNameMap f p q) (program : Program) (terms : Terms) (keeps : KeepsStop f terms.counting) where
  abbrev other : Program
  other = stepping.other f p q is program

  start_mapped : (entry : Declared) (heap : Heap Ty) (answers : List HostAnswer) → heap_map (type_map f) heap ≡ heap
      → start_state other (declared_map f entry) heap answers ≡ state_map f (start_state program entry heap answers)
  start_mapped entry heap answers same =
      rw (stepping.new_frame_mapped f p q is program entry (values.Ref 1 ∷ []), names.static_count_alike f (code_map f) p q is program, length-map program (class_map f (code_map f)), same) refl

  begun_mapped : (i : Initialised) → begun (initialised_map f i) ≡ answer_map f (begun i)
  begun_mapped (Ready s) = refl
  begun_mapped (Waits s) = refl
  begun_mapped (Fails outcome s) = refl

  pub begin_mapped : (entry : Declared) (input : List ℕ) (answers : List HostAnswer)
      → begin other q terms (declared_map f entry) input answers ≡ answer_map f (begin program p terms entry input answers)
  unfolding begin
  begin_mapped entry input answers = elim (either (passes_limit terms.limit (object_size (input_array input)))) [
    | inl full ↦ rw full (ap (Ended (outcomes.HeapFull 0 (object_size (input_array input)))) (start_mapped entry empty_heap answers refl))
    | inr fits ↦ rw fits (ap (λ (s : State). begun (initialise other q terms (f entry.class) s)) (start_mapped entry (input_heap input) answers refl)
        ∙ (ap begun (stepping.initialise_mapped f p q is program terms entry.class (start_state program entry (input_heap input) answers))
        ∙ begun_mapped (initialise program p terms entry.class (start_state program entry (input_heap input) answers))))
  ]

  one_more_mapped : (r : Ran) → one_more (ran_map f r) ≡ ran_map f (one_more r)
  one_more_mapped (Going s) = refl
  one_more_mapped (Finished outcome s n) = refl
  one_more_mapped NoStep = refl

  then_mapped : (n : ℕ) → ((s : State) → steps other q terms n (state_map f s) ≡ ran_map f (steps program p terms n s)) → (a : StepAnswer)
      → then_steps (steps other q terms n) (answer_map f a) ≡ ran_map f (then_steps (steps program p terms n) a)
  then_mapped n each (Went s) = ap one_more (each s) ∙ one_more_mapped (steps program p terms n s)
  then_mapped n each (Ended outcome s) = refl
  then_mapped n each IllFormed = refl

  pub steps_mapped : (n : ℕ) (s : State) → steps other q terms n (state_map f s) ≡ ran_map f (steps program p terms n s)
  unfolding steps
  steps_mapped zero s = refl
  steps_mapped (suc n) s = ap (then_steps (steps other q terms n)) (stepping.step_mapped f p q is program terms keeps s) ∙ then_mapped n (steps_mapped n) (step program p terms s)

  start_ran : (n : ℕ) (a : StepAnswer) → from_start (steps other q terms n) (answer_map f a) ≡ ran_map f (from_start (steps program p terms n) a)
  start_ran n (Went s) = steps_mapped n s
  start_ran n (Ended outcome s) = refl
  start_ran n IllFormed = refl

  reported : (answers : List HostAnswer) (most : ℕ) (r : Ran) → report_of answers most (ran_map f r) ≡ option_map (report_map f) (report_of answers most r)
  reported answers most (Going s) = refl
  reported answers most (Finished outcome s n) = refl
  reported answers most NoStep = refl

  pub run_mapped : (entry : Declared) (input : List ℕ) (answers : List HostAnswer) (most : ℕ)
      → plain_run other q terms (declared_map f entry) input answers most ≡ option_map (report_map f) (plain_run program p terms entry input answers most)
  unfolding plain_run
  run_mapped entry input answers most =
      ap (λ (a : StepAnswer). report_of answers most (from_start (steps other q terms most) a)) (begin_mapped entry input answers)
      ∙ (ap (report_of answers most) (start_ran most (begin program p terms entry input answers))
      ∙ reported answers most (from_start (steps program p terms most) (begin program p terms entry input answers)))
