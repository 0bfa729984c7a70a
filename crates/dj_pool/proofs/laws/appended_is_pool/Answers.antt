use Rattle.dj_pool.proofs.ChangeLaws.{appended_is_pool}
use Rattle.dj_pool.proofs.laws.appended_is_pool.Goals as goal

pub returns : goal.returns
returns c = appended_is_pool
