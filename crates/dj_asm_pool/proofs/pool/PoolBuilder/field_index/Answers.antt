use Rattle.dj_asm_pool.specs.trusted.Entries.{Field}
use Rattle.dj_asm_pool.proofs.FoundEntries.{field_sought}
use Rattle.dj_asm_pool.proofs.pool.PoolBuilder.field_index.Goals as goal

pub returns : goal.returns
returns c = c.sought.ensures (Field c.args.class.now c.args.name.now c.args.desc.now) (field_sought c.args.self.now c.args.class.now c.args.name.now c.args.desc.now c.class_index-first.result c.names_index-second.result c.class_index-first.ensures c.names_index-second.ensures)
