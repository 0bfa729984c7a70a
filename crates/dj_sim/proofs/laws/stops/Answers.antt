use Rattle.dj_groups.specs.Rewritten.{rewritten}
use Rattle.dj_sim.specs.Simulation.{plain_terms}
use Rattle.dj_sim.proofs.Ready.{flags_after, ready}
use Rattle.dj_sim.proofs.Unwinding.{unwound_stops}
use Rattle.dj_sim.proofs.laws.stops.Goals as goal

pub returns : goal.returns
unfolding rewritten
returns c = λ program base handled most frames original r exception charge exceeded stop.
    unwound_stops program most (flags_after program base (plain_terms most)) handled (ready program base (plain_terms most)) frames original r exception charge exceeded stop
