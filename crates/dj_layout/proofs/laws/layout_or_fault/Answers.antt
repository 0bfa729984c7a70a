use Rattle.dj_layout.proofs.Decided.{layout_or_fault_is}
use Rattle.dj_layout.proofs.laws.layout_or_fault.Goals as goal

pub returns : goal.returns
returns c = layout_or_fault_is
