use Rattle.dj_ops.proofs.Sizes.{written_spells}
use Rattle.dj_ops.proofs.laws.written_spells.Goals as goal

pub returns : goal.returns
returns c = written_spells
