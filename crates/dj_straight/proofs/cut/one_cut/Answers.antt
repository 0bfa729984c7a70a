use Rattle.dj_straight.proofs.Cuts.{one_cut_from}
use Rattle.dj_straight.proofs.cut.one_cut.Goals as goal

pub returns : goal.returns
returns c code a b = one_cut_from code 0 a b
