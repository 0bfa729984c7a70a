use Rattle.dj_accepted.proofs.Base as lemmas
use Rattle.dj_accepted.proofs.laws.have_base.Goals as goal

pub returns : goal.returns
returns c = lemmas.have_base
