use Rattle.dj_groups.specs.Rewritten.{rewritten}
use Rattle.dj_sim.proofs.Initialising.{initialises as law}
use Rattle.dj_sim.proofs.laws.initialises.Goals as goal

pub returns : goal.returns
unfolding rewritten
returns c = λ program base terms touched class s. law program base terms touched class s
