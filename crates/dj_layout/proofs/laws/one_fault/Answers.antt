use Rattle.dj_layout.proofs.Once.{one_fault_is}
use Rattle.dj_layout.proofs.laws.one_fault.Goals as goal

pub returns : goal.returns
returns c = one_fault_is
