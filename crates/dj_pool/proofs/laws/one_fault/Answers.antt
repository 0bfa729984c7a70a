use Rattle.dj_pool.proofs.PoolAnswers.{one_fault}
use Rattle.dj_pool.proofs.laws.one_fault.Goals as goal

pub returns : goal.returns
returns c = one_fault
