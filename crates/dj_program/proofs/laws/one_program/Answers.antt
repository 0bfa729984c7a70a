use Rattle.dj_program.proofs.Once.{one_is}
use Rattle.dj_program.proofs.laws.one_program.Goals as goal

pub returns : goal.returns
returns c = one_is
