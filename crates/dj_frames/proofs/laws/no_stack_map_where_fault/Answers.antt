use Rattle.dj_frames.proofs.WholeFaults.{no_stack_map_where_fault}
use Rattle.dj_frames.proofs.laws.no_stack_map_where_fault.Goals as goal

pub returns : goal.returns
returns c = no_stack_map_where_fault
