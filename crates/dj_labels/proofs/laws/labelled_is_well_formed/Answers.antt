use Rattle.dj_labels.proofs.Proper.{well_formed}
use Rattle.dj_labels.proofs.laws.labelled_is_well_formed.Goals as goal

pub returns : goal.returns
returns c = well_formed
