use Rattle.dj_straight.proofs.Runs.{straight_code_ends}
use Rattle.dj_straight.proofs.laws.straight_code_ends.Goals as goal

pub returns : goal.returns
returns c = straight_code_ends
