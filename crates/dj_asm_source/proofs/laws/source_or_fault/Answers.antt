use Rattle.dj_asm_source.proofs.TextLaws.{word_fault_or_text}
use Rattle.dj_asm_source.proofs.laws.source_or_fault.Goals as goal

pub returns : goal.returns
returns c = word_fault_or_text
