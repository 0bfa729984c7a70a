use Rattle.dj_asm.proofs.OneFault.{one_fault}
use Rattle.dj_asm.proofs.laws.one_fault.Goals as goal

pub returns : goal.returns
returns c = one_fault
