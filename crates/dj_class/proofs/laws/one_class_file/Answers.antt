use Rattle.dj_pool.proofs.Decides.{tests_decide}
use Rattle.dj_class.proofs.ClassLaws.{one_class_file}
use Rattle.dj_class.proofs.laws.one_class_file.Goals as goal

pub returns : goal.returns
returns c = one_class_file tests_decide
