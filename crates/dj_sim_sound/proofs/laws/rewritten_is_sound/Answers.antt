use Rattle.dj_groups.specs.Rewritten.{rewritten}
use Rattle.dj_sim_sound.proofs.Programs.{sound_now, quiet_now, entry_now}
use Rattle.dj_sim_sound.proofs.laws.rewritten_is_sound.Goals as goal

pub returns : goal.returns
unfolding rewritten
returns c = record {
  sound = λ program sound base. sound_now program base sound;
  quiet = quiet_now;
  entry = entry_now;
}
