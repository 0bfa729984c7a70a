use Rattle.dj_groups.proofs.Programs.{program_rewritten as law}
use Rattle.dj_groups.proofs.laws.program_rewritten.Goals as goal

pub returns : goal.returns
returns c = law
