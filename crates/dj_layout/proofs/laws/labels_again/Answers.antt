use Rattle.dj_layout.proofs.Once.{labels_again_is}
use Rattle.dj_layout.proofs.laws.labels_again.Goals as goal

pub returns : goal.returns
returns c = labels_again_is
