use Rattle.dj_rename.proofs.Undoing.{descs_in_sandbox}
use Rattle.dj_rename.proofs.laws.descs_in_sandbox.Goals as goal

pub returns : goal.returns
returns c = descs_in_sandbox
