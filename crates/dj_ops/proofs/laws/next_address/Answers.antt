use Rattle.dj_ops.proofs.Sizes.{next_address}
use Rattle.dj_ops.proofs.laws.next_address.Goals as goal

pub returns : goal.returns
returns c = next_address
