use Rattle.dj_bounds.proofs.PlainBounds.{work_bounded}
use Rattle.dj_bounds.proofs.laws.work_is_bounded.Goals as goal

pub returns : goal.returns
returns c = work_bounded
