use Rattle.std.proofs.Common.{None, length}
use Rattle.dj_natives_tests.specs.Few.{IsComponent, few_types}
use Rattle.dj_natives_tests.proofs.SmallPrograms.{reported_at}
use Rattle.dj_natives_tests.proofs.few.FewClasses.component.Goals as goal

pub returns : goal.returns
returns c = reported_at (IsComponent c.args.self.now.boxed) c.components.result.now c.args.class (length (few_types c.args.self.now.boxed)) None c.components.ensures.all c.components.ensures.count c.requires
