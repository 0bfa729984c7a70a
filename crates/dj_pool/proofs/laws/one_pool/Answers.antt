use Rattle.dj_pool.proofs.PoolAnswers.{one_pool}
use Rattle.dj_pool.proofs.laws.one_pool.Goals as goal

pub returns : goal.returns
returns c = one_pool
