use Rattle.dj_model.proofs.LawProofs.{step_commutes_with_names}
use Rattle.dj_model.proofs.laws.step_commutes_with_names.Goals as goal

pub returns : goal.returns
returns c = step_commutes_with_names
