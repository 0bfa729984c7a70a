use Rattle.dj_class.proofs.CodeLaws.{one_code_fault}
use Rattle.dj_class.proofs.laws.one_code_fault.Goals as goal

pub returns : goal.returns
returns c = one_code_fault
