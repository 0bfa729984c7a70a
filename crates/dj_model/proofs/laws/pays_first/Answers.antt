use Rattle.dj_model.proofs.LawProofs.{pays_first}
use Rattle.dj_model.proofs.laws.pays_first.Goals as goal

pub returns : goal.returns
returns c = pays_first
