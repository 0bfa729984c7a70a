use Rattle.dj_pool.proofs.Decides.{tests_decide}
use Rattle.dj_class.proofs.AnswerLaws.{faulty_is_malformed}
use Rattle.dj_class.proofs.laws.faulty_is_malformed.Goals as goal

pub returns : goal.returns
returns c = faulty_is_malformed tests_decide
