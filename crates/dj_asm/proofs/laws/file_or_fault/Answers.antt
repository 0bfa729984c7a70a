use Rattle.dj_asm.proofs.FileOrFault.{file_or_fault}
use Rattle.dj_asm_source.proofs.LabelTextLaws.{label_fault_or_none}
use Rattle.dj_asm.proofs.laws.file_or_fault.Goals as goal

pub returns : goal.returns
returns c = λ text. file_or_fault text (λ s is. label_fault_or_none text s is)
