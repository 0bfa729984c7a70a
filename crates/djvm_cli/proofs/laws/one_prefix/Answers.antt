use Rattle.djvm_cli.proofs.Same.{same_prefix}
use Rattle.djvm_cli.proofs.laws.one_prefix.Goals as goal

pub returns : goal.returns
returns c = same_prefix
