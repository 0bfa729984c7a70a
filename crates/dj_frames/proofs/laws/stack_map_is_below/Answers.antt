use Rattle.dj_frames.proofs.Formed.{stack_map_is_below}
use Rattle.dj_frames.proofs.laws.stack_map_is_below.Goals as goal

pub returns : goal.returns
returns c = stack_map_is_below
