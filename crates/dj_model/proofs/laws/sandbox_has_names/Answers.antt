use Rattle.dj_model.proofs.LawProofs.{sandbox_has_names}
use Rattle.dj_model.proofs.laws.sandbox_has_names.Goals as goal

pub returns : goal.returns
returns c = sandbox_has_names
