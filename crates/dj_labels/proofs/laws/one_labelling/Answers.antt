use Rattle.dj_labels.proofs.Once.{one_labelling_is}
use Rattle.dj_labels.proofs.laws.one_labelling.Goals as goal

pub returns : goal.returns
returns c = one_labelling_is
