use Rattle.dj_sound.proofs.RawAccepted.{have_raw_class_files}
use Rattle.dj_sound.proofs.laws.have_raw_class_files.Goals as goal

pub returns : goal.returns
returns c = have_raw_class_files
