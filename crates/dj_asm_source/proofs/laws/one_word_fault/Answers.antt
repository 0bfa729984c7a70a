use Rattle.dj_asm_source.proofs.FaultLaws.{one_word_fault}
use Rattle.dj_asm_source.proofs.laws.one_word_fault.Goals as goal

pub returns : goal.returns
returns c = one_word_fault
