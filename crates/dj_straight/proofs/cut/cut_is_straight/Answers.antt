use Rattle.dj_straight.proofs.Cuts.{cut_is_straight}
use Rattle.dj_straight.proofs.cut.cut_is_straight.Goals as goal

pub returns : goal.returns
returns c = cut_is_straight
