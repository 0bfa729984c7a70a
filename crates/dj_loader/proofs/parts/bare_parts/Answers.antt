use Rattle.std.proofs.Common.{sym, subst}
use Rattle.dj_pool.specs.trusted.Pool.{IsPool}
use Rattle.dj_loader.proofs.BareFacts.{no_constants}
use Rattle.dj_loader.proofs.parts.bare_parts.Goals as goal

pub pool_kinds-requires-clause-linked : goal.pool_kinds-requires-clause-linked
pool_kinds-requires-clause-linked c = subst IsPool (sym c.new.ensures) no_constants
