use Rattle.djvm_cli.proofs.SameRuns.{same_runs}
use Rattle.djvm_cli.proofs.laws.same_runs.Goals as goal

pub returns : goal.returns
returns c = same_runs
