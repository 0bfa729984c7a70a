use Rattle.dj_class_set.proofs.RunRules.{static_is}
use Rattle.dj_class_set.proofs.run_rules.is_static.Goals as goal

pub returns : goal.returns
returns c = static_is c.args.flags c.is_static.result c.is_static.ensures
