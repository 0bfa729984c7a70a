use Rattle.dj_asm_source.proofs.FaultLaws.{no_fault_of_text}
use Rattle.dj_asm_source.proofs.laws.no_fault_of_source.Goals as goal

pub returns : goal.returns
returns c = no_fault_of_text
