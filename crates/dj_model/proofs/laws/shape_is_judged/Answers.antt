use Rattle.dj_model.proofs.LawProofs.{shape_is_judged}
use Rattle.dj_model.proofs.laws.shape_is_judged.Goals as goal

pub returns : goal.returns
returns c = shape_is_judged
