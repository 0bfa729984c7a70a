use Rattle.dj_model.proofs.LawProofs.{answers_have_kinds}
use Rattle.dj_model.proofs.laws.answers_have_kinds.Goals as goal

pub returns : goal.returns
returns c = answers_have_kinds
