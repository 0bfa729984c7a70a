use Rattle.dj_class.proofs.CodeLaws.{code_or_fault}
use Rattle.dj_class.proofs.laws.code_or_fault.Goals as goal

pub returns : goal.returns
returns c = code_or_fault
