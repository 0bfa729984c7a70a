use Rattle.dj_sound.proofs.RawAccepted.{are_raw_accepted}
use Rattle.dj_sound.proofs.laws.are_raw_accepted.Goals as goal

pub returns : goal.returns
returns c = are_raw_accepted
