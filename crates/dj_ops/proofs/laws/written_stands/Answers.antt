use Rattle.dj_ops.proofs.Sizes.{written_stands}
use Rattle.dj_ops.proofs.laws.written_stands.Goals as goal

pub returns : goal.returns
returns c = written_stands
