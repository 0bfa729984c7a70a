use Rattle.djvm_cli.proofs.Same.{same_end}
use Rattle.djvm_cli.proofs.laws.one_end.Goals as goal

pub returns : goal.returns
returns c = same_end
