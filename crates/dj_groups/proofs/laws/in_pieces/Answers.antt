use Rattle.dj_groups.proofs.GroupLaws.{in_pieces as law}
use Rattle.dj_groups.proofs.laws.in_pieces.Goals as goal

pub returns : goal.returns
returns c = law
