use Rattle.djvm_cli.proofs.Same.{any_answer}
use Rattle.djvm_cli.proofs.laws.one_answer.Goals as goal

pub returns : goal.returns
returns c = any_answer
