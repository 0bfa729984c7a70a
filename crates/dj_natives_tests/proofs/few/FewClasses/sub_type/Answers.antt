use Rattle.dj_natives_tests.proofs.SmallPrograms.{row_within, below_is}
use Rattle.dj_natives_tests.proofs.few.FewClasses.sub_type.Goals as goal

pub bounds-below-b : goal.bounds-below-b
bounds-below-b c = row_within c.args.self.now.boxed c.below.result.now c.args.a c.args.b _ c.below.ensures c.requires.first c.requires.second

pub returns : goal.returns
returns c = below_is c.args.self.now.boxed c.below.result.now c.args.a c.args.b _ c.below.ensures c.requires.first c.requires.second
