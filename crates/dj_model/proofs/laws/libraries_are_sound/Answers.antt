use Rattle.dj_model.proofs.SoundPrograms.{libraries_are_sound}
use Rattle.dj_model.proofs.laws.libraries_are_sound.Goals as goal

pub returns : goal.returns
returns c = libraries_are_sound
