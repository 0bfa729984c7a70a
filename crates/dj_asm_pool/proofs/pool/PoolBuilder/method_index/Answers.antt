use Rattle.dj_asm_pool.specs.trusted.Entries.{Method}
use Rattle.dj_asm_pool.proofs.FoundEntries.{method_sought}
use Rattle.dj_asm_pool.proofs.pool.PoolBuilder.method_index.Goals as goal

pub returns : goal.returns
returns c = c.sought.ensures (Method c.args.class.now c.args.name.now c.args.desc.now) (method_sought c.args.self.now c.args.class.now c.args.name.now c.args.desc.now c.class_index-first.result c.names_index-second.result c.class_index-first.ensures c.names_index-second.ensures)
