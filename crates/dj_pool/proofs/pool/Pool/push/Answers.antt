use Rattle.std.proofs.Common.{sym, ◌∙◌}
use Rattle.dj_pool.specs.Views.{constant_of}
use Rattle.dj_pool.proofs.ChangeLaws.{one_wide, one_narrow}
use Rattle.dj_pool.proofs.pool.Pool.push.Goals as goal

pub returns-then-is_wide-clause-ok : goal.returns-then-is_wide-clause-ok
returns-then-is_wide-clause-ok c = rw (one_wide (constant_of c.args.entry) (sym c.is_wide.ensures ∙ c.if-is_wide.true)) c.push_wide.ensures.ok

pub returns-else-is_wide-clause-ok : goal.returns-else-is_wide-clause-ok
returns-else-is_wide-clause-ok c = rw (one_narrow (constant_of c.args.entry) (sym c.is_wide.ensures ∙ c.if-is_wide.false)) c.push_one.ensures.ok
