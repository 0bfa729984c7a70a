use Rattle.dj_ops.proofs.Sizes.{spelled_length}
use Rattle.dj_ops.proofs.laws.spelled_length.Goals as goal

pub returns : goal.returns
returns c = spelled_length
