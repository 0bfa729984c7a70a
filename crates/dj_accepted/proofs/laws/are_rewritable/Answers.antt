use Rattle.dj_accepted.proofs.Methods as lemmas
use Rattle.dj_accepted.proofs.laws.are_rewritable.Goals as goal

pub returns : goal.returns
returns c = lemmas.are_rewritable
