use Rattle.dj_model.proofs.LawProofs.{effect_reads_no_code}
use Rattle.dj_model.proofs.laws.effect_reads_no_code.Goals as goal

pub returns : goal.returns
returns c = effect_reads_no_code
