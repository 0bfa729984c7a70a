use Rattle.dj_model.proofs.LawProofs.{worked_runs}
use Rattle.dj_model.proofs.laws.worked_runs.Goals as goal

pub returns : goal.returns
returns c = worked_runs
