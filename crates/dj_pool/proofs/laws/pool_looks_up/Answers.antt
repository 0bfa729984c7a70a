use Rattle.dj_pool.proofs.ChangeLaws.{pool_looks_up}
use Rattle.dj_pool.proofs.laws.pool_looks_up.Goals as goal

pub returns : goal.returns
returns c = pool_looks_up
