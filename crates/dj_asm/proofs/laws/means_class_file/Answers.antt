use Rattle.dj_asm.proofs.ValidFile.{text_is_class_file}
use Rattle.dj_asm.proofs.laws.means_class_file.Goals as goal

pub returns : goal.returns
returns c = text_is_class_file
