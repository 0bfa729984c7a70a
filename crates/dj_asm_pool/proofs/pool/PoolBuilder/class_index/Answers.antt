use Rattle.dj_asm_pool.specs.trusted.Entries.{Class}
use Rattle.dj_asm_pool.proofs.FoundEntries.{class_sought}
use Rattle.dj_asm_pool.proofs.pool.PoolBuilder.class_index.Goals as goal

pub returns : goal.returns
returns c = c.sought.ensures (Class c.args.name.now) (class_sought c.args.self.now c.args.name.now c.utf8_index-text.result c.utf8_index-text.ensures)
