use Rattle.dj_pool.proofs.Decides.{tests_decide}
use Rattle.dj_class.proofs.AnswerLaws.{one_fault}
use Rattle.dj_class.proofs.laws.one_fault.Goals as goal

pub returns : goal.returns
returns c = one_fault tests_decide
