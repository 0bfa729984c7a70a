use Rattle.dj_write.proofs.LawProofs.{view_of_file}
use Rattle.dj_write.proofs.laws.view_of_file.Goals as goal

pub returns : goal.returns
returns c = view_of_file
