use Rattle.dj_asm_pool.specs.trusted.Entries.{Dynamic}
use Rattle.dj_asm_pool.proofs.FoundEntries.{dynamic_sought}
use Rattle.dj_asm_pool.proofs.pool.PoolBuilder.dynamic_index.Goals as goal

pub returns : goal.returns
returns c = c.sought.ensures (Dynamic c.args.place c.args.name.now c.args.desc.now) (dynamic_sought c.args.self.now c.args.place c.args.name.now c.args.desc.now c.names_index-names.result c.names_index-names.ensures)
