use Rattle.dj_accepted.proofs.Methods as lemmas
use Rattle.dj_accepted.proofs.laws.are_news_known.Goals as goal

pub returns : goal.returns
returns c = lemmas.are_news_known
