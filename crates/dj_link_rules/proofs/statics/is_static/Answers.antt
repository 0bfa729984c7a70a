use Rattle.dj_link_rules.proofs.Resolving.{static_test}
use Rattle.dj_link_rules.proofs.statics.is_static.Goals as goal

pub returns : goal.returns
returns c = static_test c.args.flags
