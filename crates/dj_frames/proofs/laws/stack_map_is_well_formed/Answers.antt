use Rattle.dj_frames.proofs.Formed.{stack_map_is_well_formed}
use Rattle.dj_frames.proofs.laws.stack_map_is_well_formed.Goals as goal

pub returns : goal.returns
returns c = stack_map_is_well_formed
