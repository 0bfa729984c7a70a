use Rattle.dj_write.proofs.LawProofs.{file_of_view}
use Rattle.dj_write.proofs.laws.file_of_view.Goals as goal

pub returns : goal.returns
returns c = file_of_view
