use Rattle.dj_model.proofs.LawProofs.{one_end}
use Rattle.dj_model.proofs.laws.one_end.Goals as goal

pub returns : goal.returns
returns c = one_end
