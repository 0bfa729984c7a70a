use Rattle.dj_natives_tests.proofs.SmallPrograms.{name_is}
use Rattle.dj_natives_tests.proofs.few.FewClasses.name_of.Goals as goal

pub returns : goal.returns
returns c = name_is c.args.self.now.boxed c.names.result.now c.args.class _ c.names.ensures c.requires
