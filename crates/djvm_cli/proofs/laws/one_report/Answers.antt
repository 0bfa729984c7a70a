use Rattle.djvm_cli.proofs.Same.{same_report}
use Rattle.djvm_cli.proofs.laws.one_report.Goals as goal

pub returns : goal.returns
returns c = same_report
