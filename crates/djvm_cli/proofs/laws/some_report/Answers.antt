use Rattle.dj_sandbox.proofs.RawRuns.{has_raw_run}
use Rattle.djvm_cli.proofs.SomeReport.{some_report}
use Rattle.djvm_cli.proofs.laws.some_report.Goals as goal

pub returns : goal.returns
returns c = some_report has_raw_run
