use Rattle.dj_frames.proofs.WholeLaws.{one_stack_map}
use Rattle.dj_frames.proofs.laws.one_stack_map.Goals as goal

pub returns : goal.returns
returns c = one_stack_map
