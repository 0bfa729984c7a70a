use Rattle.dj_ops.proofs.Whole.{one_at}
use Rattle.dj_ops.proofs.laws.one_instruction.Goals as goal

pub returns : goal.returns
returns c = one_at
