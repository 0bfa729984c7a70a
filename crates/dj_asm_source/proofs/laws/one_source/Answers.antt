use Rattle.dj_asm_source.proofs.OneSource.{one_source}
use Rattle.dj_asm_source.proofs.laws.one_source.Goals as goal

pub returns : goal.returns
returns c = one_source
