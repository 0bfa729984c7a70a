use Rattle.dj_rename.proofs.Undoing.{classes_in_sandbox}
use Rattle.dj_rename.proofs.laws.classes_in_sandbox.Goals as goal

pub returns : goal.returns
returns c = classes_in_sandbox
