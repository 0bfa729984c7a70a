use Rattle.dj_bounds.proofs.Idle.{limit_idle}
use Rattle.dj_bounds.proofs.laws.limit_is_idle.Goals as goal

pub returns : goal.returns
returns c = limit_idle
