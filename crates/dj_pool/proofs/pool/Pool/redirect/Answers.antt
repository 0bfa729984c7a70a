use Rattle.dj_pool.proofs.ChangeLaws.{redirected}
use Rattle.dj_pool.proofs.pool.Pool.redirect.Goals as goal

pub returns-clause-ok : goal.returns-clause-ok
returns-clause-ok c = redirected c.self.inside.entries.items c.args.self.now c.args.index c.args.text c.index.result.now c.with_text-changed.result c.self.view_is c.requires c.index.ensures c.with_text-changed.ensures
