use Rattle.dj_model.specs.Runs.{metered_terms}
use Rattle.dj_groups.specs.Rewritten.{rewritten}
use Rattle.dj_sim.proofs.Initialising.{initialises}
use Rattle.dj_sim.proofs.Steps.{step_image}
use Rattle.dj_sim.proofs.laws.act.Goals as goal

pub returns : goal.returns
unfolding rewritten
returns c = λ program base most touched s x below i frames acting there has.
    step_image program touched most (λ class s. initialises program base (metered_terms most) touched class s) s x below i frames acting there has
