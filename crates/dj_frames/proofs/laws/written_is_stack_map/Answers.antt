use Rattle.dj_frames.proofs.Written.{written_is_stack_map}
use Rattle.dj_frames.proofs.laws.written_is_stack_map.Goals as goal

pub returns : goal.returns
returns c = written_is_stack_map
