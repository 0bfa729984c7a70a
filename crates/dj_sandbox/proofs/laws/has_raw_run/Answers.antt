use Rattle.dj_sandbox.proofs.RawRuns.{has_raw_run}
use Rattle.dj_sandbox.proofs.laws.has_raw_run.Goals as goal

pub returns : goal.returns
returns c = has_raw_run
