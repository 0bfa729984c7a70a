use Rattle.dj_straight.proofs.Programs.{same_effect, same_amounts}
use Rattle.dj_straight.proofs.laws.same_in_every_program.Goals as goal

pub returns : goal.returns
returns c = λ a b m n i p asks e. (same_effect a b m n i p e, same_amounts a b i p.operands)
