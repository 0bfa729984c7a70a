use Rattle.dj_labels.proofs.Decided.{labels_or_fault}
use Rattle.dj_labels.proofs.laws.labels_or_fault.Goals as goal

pub returns : goal.returns
returns c = labels_or_fault
