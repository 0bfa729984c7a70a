use Rattle.dj_natives_tests.proofs.SmallPrograms.{have_components}
use Rattle.dj_natives_tests.proofs.few.FewClasses.have_components.Goals as goal

pub returns : goal.returns
returns c = have_components c.args.self.now.boxed
