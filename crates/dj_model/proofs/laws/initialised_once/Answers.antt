use Rattle.dj_model.proofs.LawProofs.{initialised_once}
use Rattle.dj_model.proofs.laws.initialised_once.Goals as goal

pub returns : goal.returns
returns c = initialised_once
