use Rattle.dj_bounds.proofs.Literals.{literals_within}
use Rattle.dj_bounds.proofs.laws.literals_are_within.Goals as goal

pub returns : goal.returns
returns c = literals_within
