use Rattle.dj_class.proofs.CodeLaws.{faulty_is_no_code}
use Rattle.dj_class.proofs.laws.faulty_is_no_code.Goals as goal

pub returns : goal.returns
returns c = faulty_is_no_code
