use Rattle.dj_pool.proofs.PoolAnswers.{no_pool_where_fault}
use Rattle.dj_pool.proofs.laws.no_pool_where_fault.Goals as goal

pub returns : goal.returns
returns c = no_pool_where_fault
