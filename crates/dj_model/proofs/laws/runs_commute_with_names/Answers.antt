use Rattle.dj_model.proofs.LawProofs.{runs_commute_with_names}
use Rattle.dj_model.proofs.laws.runs_commute_with_names.Goals as goal

pub returns : goal.returns
returns c = runs_commute_with_names
