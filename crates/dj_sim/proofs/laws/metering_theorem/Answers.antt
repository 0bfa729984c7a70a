use Rattle.dj_sim.proofs.Metering.{meters}
use Rattle.dj_sim.proofs.laws.metering_theorem.Goals as goal

pub returns : goal.returns
returns c = λ program sound base quiet entry is most input. meters program sound base quiet most entry input is
