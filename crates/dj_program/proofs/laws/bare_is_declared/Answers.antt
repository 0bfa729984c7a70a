use Rattle.dj_program.proofs.Bare.{bare_is}
use Rattle.dj_program.proofs.laws.bare_is_declared.Goals as goal

pub returns : goal.returns
returns c = bare_is
