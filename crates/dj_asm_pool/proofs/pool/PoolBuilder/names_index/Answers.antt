use Rattle.dj_asm_pool.specs.trusted.Entries.{NameAndType}
use Rattle.dj_asm_pool.proofs.FoundEntries.{names_sought}
use Rattle.dj_asm_pool.proofs.pool.PoolBuilder.names_index.Goals as goal

pub returns : goal.returns
returns c = c.sought.ensures (NameAndType c.args.name.now c.args.desc.now) (names_sought c.args.self.now c.args.name.now c.args.desc.now c.utf8_index-first.result c.utf8_index-second.result c.utf8_index-first.ensures c.utf8_index-second.ensures)
