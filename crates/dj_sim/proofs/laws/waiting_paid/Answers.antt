use Rattle.dj_sim.proofs.Waiting.{step_waits, begin_waits, turn_waits}
use Rattle.dj_sim.proofs.laws.waiting_paid.Goals as goal

pub returns : goal.returns
returns c = record { begins = begin_waits; steps = step_waits; turns = turn_waits }
