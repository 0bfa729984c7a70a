use Rattle.dj_frames.proofs.WholeFaults.{stack_map_where_no_fault}
use Rattle.dj_frames.proofs.laws.stack_map_where_no_fault.Goals as goal

pub returns : goal.returns
returns c = stack_map_where_no_fault
