use Rattle.dj_pool.proofs.RedirectLaws.{redirected_is_pool}
use Rattle.dj_pool.proofs.laws.redirected_is_pool.Goals as goal

pub returns : goal.returns
returns c = redirected_is_pool
