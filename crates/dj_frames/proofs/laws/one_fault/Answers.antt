use Rattle.dj_frames.proofs.WholeFaults.{one_fault}
use Rattle.dj_frames.proofs.laws.one_fault.Goals as goal

pub returns : goal.returns
returns c = one_fault
