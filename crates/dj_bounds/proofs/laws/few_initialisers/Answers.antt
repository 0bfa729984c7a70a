use Rattle.dj_bounds.proofs.Files.{few_initialisers}
use Rattle.dj_bounds.proofs.laws.few_initialisers.Goals as goal

pub returns : goal.returns
returns c = few_initialisers
