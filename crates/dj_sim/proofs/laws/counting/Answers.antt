use Rattle.dj_sim.proofs.CountedSteps.{step_counts, begin_same}
use Rattle.dj_sim.proofs.laws.counting.Goals as goal

pub returns : goal.returns
returns c = record { begins = begin_same; steps = step_counts }
