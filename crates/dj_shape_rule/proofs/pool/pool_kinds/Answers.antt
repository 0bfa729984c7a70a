use Rattle.dj_shape_rule.proofs.Linked.{kept_reported}
use Rattle.dj_shape_rule.proofs.pool.pool_kinds.Goals as goal

pub returns : goal.returns
returns c = kept_reported c.args.pool.now _ c.requires.linked c.in_ok-constants.ensures c.in_ok-calls.ensures
