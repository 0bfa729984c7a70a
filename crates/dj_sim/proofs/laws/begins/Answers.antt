use Rattle.dj_groups.specs.Rewritten.{rewritten}
use Rattle.dj_sim.proofs.Beginning.{begins as law}
use Rattle.dj_sim.proofs.laws.begins.Goals as goal

pub returns : goal.returns
unfolding rewritten
returns c = λ program base terms entry input answers. law program base terms entry input answers
