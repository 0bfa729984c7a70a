use Rattle.dj_model.proofs.LawProofs.{heaps_grow}
use Rattle.dj_model.proofs.laws.heaps_grow.Goals as goal

pub returns : goal.returns
returns c = heaps_grow
