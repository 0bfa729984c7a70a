use Rattle.dj_asm_pool.specs.trusted.Entries.{InterfaceMethod}
use Rattle.dj_asm_pool.proofs.FoundEntries.{interface_sought}
use Rattle.dj_asm_pool.proofs.pool.PoolBuilder.interface_method_index.Goals as goal

pub returns : goal.returns
returns c = c.sought.ensures (InterfaceMethod c.args.class.now c.args.name.now c.args.desc.now) (interface_sought c.args.self.now c.args.class.now c.args.name.now c.args.desc.now c.class_index-first.result c.names_index-second.result c.class_index-first.ensures c.names_index-second.ensures)
