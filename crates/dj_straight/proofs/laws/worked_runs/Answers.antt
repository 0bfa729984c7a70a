use Rattle.dj_straight.proofs.SmallRuns.{worked_runs}
use Rattle.dj_straight.proofs.laws.worked_runs.Goals as goal

pub returns : goal.returns
returns c = worked_runs
