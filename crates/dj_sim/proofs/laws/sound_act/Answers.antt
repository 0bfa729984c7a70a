use Rattle.dj_groups.specs.Rewritten.{rewritten}
use Rattle.dj_sim.proofs.SoundTurns.{standing_acts}
use Rattle.dj_sim.proofs.laws.sound_act.Goals as goal

pub returns : goal.returns
unfolding rewritten
returns c = λ program sound quiet base most touched s standing acting. standing_acts program sound base quiet most touched s standing acting
