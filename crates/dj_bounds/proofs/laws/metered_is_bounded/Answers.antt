use Rattle.dj_bounds.proofs.MeteredBounds.{metered_bounded}
use Rattle.dj_bounds.proofs.laws.metered_is_bounded.Goals as goal

pub returns : goal.returns
returns c = metered_bounded
