use Rattle.dj_labels.proofs.Once.{no_labels}
use Rattle.dj_labels.proofs.laws.no_labels_where_refused.Goals as goal

pub returns : goal.returns
returns c = no_labels
