use Rattle.dj_model.proofs.LawProofs.{steps_are_made}
use Rattle.dj_model.proofs.laws.steps_are_made.Goals as goal

pub returns : goal.returns
returns c = steps_are_made
