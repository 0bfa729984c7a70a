use Rattle.dj_labels.proofs.Whole.{are_starts}
use Rattle.dj_labels.proofs.starts.read_starts.Goals as goal

pub returns-clause-read : goal.returns-clause-read
returns-clause-read c = are_starts c.args.code.now _ _ c.in_ok-starts.ensures.read
