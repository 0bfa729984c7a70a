use Rattle.dj_layout.proofs.Once.{no_code_where_refused_is}
use Rattle.dj_layout.proofs.laws.no_code_where_refused.Goals as goal

pub returns : goal.returns
returns c = no_code_where_refused_is
