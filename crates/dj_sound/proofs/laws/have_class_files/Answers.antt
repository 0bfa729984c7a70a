use Rattle.dj_sound.proofs.ClassFiles.{have_class_files}
use Rattle.dj_sound.proofs.laws.have_class_files.Goals as goal

pub returns : goal.returns
returns c = have_class_files
