use Rattle.dj_class.proofs.CodeLaws.{one_code}
use Rattle.dj_class.proofs.laws.one_code.Goals as goal

pub returns : goal.returns
returns c = one_code
