use Rattle.dj_names.proofs.UnitLaws.{spelled_once}
use Rattle.dj_names.proofs.text.one_spelling.Goals as goal

pub returns : goal.returns
returns c = spelled_once
