-- Machines, their steps and what follows an effect, by plain values.
use Rattle.std.proofs.Common.{◌≡◌, Bool, true, false, [], ◌∷◌, Option, Some, None, refl, ap, ◌∙◌}
use Rattle.dj_names.specs.declared.run.Outcome.TheVariants as outcomes
use Rattle.dj_names.specs.declared.run.Outcome.{Outcome}
use Rattle.dj_names.specs.declared.run.Thresholds.{Thresholds}
use Rattle.dj_names.specs.Types.{sandbox_prefix}
use Rattle.dj_edge.specs.declared.host.HostAnswer.{HostAnswer}
use Rattle.dj_model.specs.trusted.State.{State, Uncounted, Accounted}
use Rattle.dj_model.specs.trusted.Charging.{new_account}
use Rattle.dj_model.specs.trusted.Step.{Went, Ended}
use Rattle.dj_model.specs.trusted.Runs.{empty_heap}
use Rattle.dj_image.specs.Imaged.{Imaged}
use Rattle.dj_step.specs.declared.answers.StepAnswer.{StepAnswer}
use Rattle.dj_step.specs.declared.answers.StepAnswer.TheVariants as steps
use Rattle.dj_step.specs.Machines.{Machined, Steps, counting_for, is_over, step_answer}

-- ---- machines

abbrev image : Imaged
image = record { sources = []; prefix = []; arrays = []; texts = [] }

abbrev state : State
state = record { heap = empty_heap; statics = []; initialised = []; literals = []; frames = []; account = new_account; answers = [] }

abbrev machine : Option Outcome → Bool → Machined
machine outcome failed = record { image = image; limit = 9; counting = Uncounted; state = state; outcome = outcome; failed = failed }

abbrev going : Machined
going = machine None false

abbrev ended : Machined
ended = machine (Some outcomes.OkNull) false

abbrev failed : Machined
failed = machine None true

answers_are : (step_answer going ≡ steps.Went) × (step_answer ended ≡ steps.Ended) × (step_answer failed ≡ steps.Memory)
answers_are = (refl, refl, refl)

over_is : (is_over going ≡ false) × (is_over ended ≡ true) × (is_over failed ≡ true)
over_is = (refl, refl, refl)

-- ---- steps

same_again : Steps ended ended [] steps.Ended
same_again = record {
  answers = refl;
  run = record { image = refl; limit = refl; counting = refl };
  over = λ over. record { same = refl; quiet = refl };
  goes = λ going. absurd cc;
}

-- one that has ended doesn't go on, asks nothing, and stays as it was
no_more_steps : (new : Machined) → Steps ended new [] steps.Went → ⊥
no_more_steps new is = let e : steps.Went ≡ steps.Ended = is.answers ∙ ap step_answer (is.over refl).same in absurd cc

no_more_questions : (new : Machined) (answer : StepAnswer) (first : HostAnswer) → Steps ended new (first ∷ []) answer → ⊥
no_more_questions new answer first is = let e : first ∷ [] ≡ [] = (is.over refl).quiet in absurd cc

-- ---- who counts

abbrev most : Thresholds
most = record { alloc = 1; invoke = 2; jump = 3; throw = 4 }

counts : (counting_for [] most ≡ Uncounted) × (counting_for sandbox_prefix most ≡ Accounted most)
counts = (refl, refl)
