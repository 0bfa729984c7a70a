use Rattle.dj_layout.proofs.Once.{one_layout_is}
use Rattle.dj_layout.proofs.laws.one_layout.Goals as goal

pub returns : goal.returns
returns c = one_layout_is
