use Rattle.dj_sim.proofs.Metering.{limited_ends as law}
use Rattle.dj_sim.proofs.laws.limited_ends.Goals as goal

pub returns : goal.returns
returns c = λ program sound base quiet entry is most input limit k report e unspent not_full. law program sound base quiet most entry input is limit k report e unspent not_full
