use Rattle.dj_pool.proofs.Decides.{tests_decide}
use Rattle.dj_class.proofs.AnswerLaws.{class_or_fault}
use Rattle.dj_class.proofs.laws.class_or_fault.Goals as goal

pub returns : goal.returns
returns c = class_or_fault tests_decide
