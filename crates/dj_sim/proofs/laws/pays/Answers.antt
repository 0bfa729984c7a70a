use Rattle.dj_groups.specs.Rewritten.{rewritten}
use Rattle.dj_sim.proofs.Payments.{pays_image}
use Rattle.dj_sim.proofs.laws.pays.Goals as goal

pub returns : goal.returns
unfolding rewritten
returns c = λ program base handled most touched s x below code frames unpaid coded paying under.
    pays_image program base most handled touched s x below code frames unpaid coded paying under
