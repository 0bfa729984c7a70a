use Rattle.dj_frames.proofs.Moved.{moved_nowhere}
use Rattle.dj_frames.proofs.laws.moved_nowhere.Goals as goal

pub returns : goal.returns
returns c = moved_nowhere
