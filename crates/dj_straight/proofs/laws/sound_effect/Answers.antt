use Rattle.dj_straight.proofs.Sound.{sound_effect}
use Rattle.dj_straight.proofs.laws.sound_effect.Goals as goal

pub returns : goal.returns
returns c = sound_effect
