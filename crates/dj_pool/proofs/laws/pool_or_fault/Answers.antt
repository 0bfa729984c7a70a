use Rattle.dj_pool.proofs.PoolAnswers.{pool_or_fault}
use Rattle.dj_pool.proofs.laws.pool_or_fault.Goals as goal

pub returns : goal.returns
returns c = pool_or_fault
