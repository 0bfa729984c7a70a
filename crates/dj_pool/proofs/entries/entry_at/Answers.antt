use Rattle.dj_pool.proofs.Found.{entry_found, entry_missing}
use Rattle.dj_pool.proofs.entries.entry_at.Goals as goal

pub returns-then-at-entries : goal.returns-then-at-entries
returns-then-at-entries c = entry_found c.args.entries.now c.args.index _ c.if-index-eq0.false c.if-at-entries.true

pub returns-else-at-entries : goal.returns-else-at-entries
returns-else-at-entries c = entry_missing c.args.entries.now c.args.index c.if-index-eq0.false c.if-at-entries.false
