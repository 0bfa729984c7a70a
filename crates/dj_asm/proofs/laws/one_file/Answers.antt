use Rattle.dj_asm.proofs.OneFile.{one_file}
use Rattle.dj_asm.proofs.laws.one_file.Goals as goal

pub returns : goal.returns
returns c = one_file
