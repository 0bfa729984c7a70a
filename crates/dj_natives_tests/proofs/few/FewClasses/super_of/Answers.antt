use Rattle.std.proofs.Common.{None, length}
use Rattle.dj_natives_tests.specs.Few.{IsSuper, few_types}
use Rattle.dj_natives_tests.proofs.SmallPrograms.{reported_at}
use Rattle.dj_natives_tests.proofs.few.FewClasses.super_of.Goals as goal

pub returns : goal.returns
returns c = reported_at (IsSuper c.args.self.now.boxed) c.supers.result.now c.args.class (length (few_types c.args.self.now.boxed)) None c.supers.ensures.all c.supers.ensures.count c.requires
