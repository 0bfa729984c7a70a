use Rattle.dj_model.proofs.LawProofs.{costs_stay_within}
use Rattle.dj_model.proofs.laws.costs_stay_within.Goals as goal

pub returns : goal.returns
returns c = costs_stay_within
