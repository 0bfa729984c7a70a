use Rattle.dj_straight.proofs.Turns.{same_end}
use Rattle.dj_straight.proofs.laws.one_end.Goals as goal

pub returns : goal.returns
returns c = same_end
