use Rattle.dj_model.proofs.LawProofs.{keeps_kinds}
use Rattle.dj_model.proofs.laws.keeps_kinds.Goals as goal

pub returns : goal.returns
returns c = keeps_kinds
