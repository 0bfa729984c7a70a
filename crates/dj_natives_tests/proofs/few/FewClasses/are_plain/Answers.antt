use Rattle.dj_natives_tests.proofs.SmallPrograms.{are_plain}
use Rattle.dj_natives_tests.proofs.few.FewClasses.are_plain.Goals as goal

pub returns : goal.returns
returns c = are_plain c.args.self.now.boxed
