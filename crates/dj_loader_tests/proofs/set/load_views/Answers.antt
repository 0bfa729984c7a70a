use Rattle.std.proofs.Common.{arith}
use Rattle.dj_loader_tests.proofs.Sound.{all_valid, all_coded, few_in_all}
use Rattle.dj_loader_tests.proofs.set.load_views.Goals as goal

pub load-requires-clause-valid : goal.load-requires-clause-valid
load-requires-clause-valid c = all_valid c.args.views.now c.requires.views

pub load-requires-clause-coded : goal.load-requires-clause-coded
load-requires-clause-coded c = all_coded c.args.views.now c.requires.views

pub load-requires-clause-described : goal.load-requires-clause-described
load-requires-clause-described c = c.requires.library.described

pub load-requires-clause-few : goal.load-requires-clause-few
load-requires-clause-few c = let few = c.requires.library.few in omega (arith, few)

pub load-requires-clause-few_members : goal.load-requires-clause-few_members
load-requires-clause-few_members c = few_in_all c.args.library.now c.args.views.now c.requires.library c.requires.views (omega arith)

pub load-requires-clause-string : goal.load-requires-clause-string
load-requires-clause-string c = c.requires.library.string
