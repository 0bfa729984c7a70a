use Rattle.dj_model.proofs.LawProofs.{few_frames}
use Rattle.dj_model.proofs.laws.few_frames.Goals as goal

pub returns : goal.returns
returns c = few_frames
