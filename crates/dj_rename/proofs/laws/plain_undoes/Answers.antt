use Rattle.dj_rename.proofs.Undoing.{plain_undoes}
use Rattle.dj_rename.proofs.laws.plain_undoes.Goals as goal

pub returns : goal.returns
returns c = plain_undoes
