use Rattle.dj_model.proofs.LawProofs.{runs_stay_sound}
use Rattle.dj_model.proofs.laws.runs_stay_sound.Goals as goal

pub returns : goal.returns
returns c = runs_stay_sound
