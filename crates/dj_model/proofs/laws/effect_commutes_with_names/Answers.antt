use Rattle.dj_model.proofs.LawProofs.{effect_commutes_with_names}
use Rattle.dj_model.proofs.laws.effect_commutes_with_names.Goals as goal

pub returns : goal.returns
returns c = effect_commutes_with_names
