use Rattle.dj_asm_pool.specs.trusted.Entries.{Text}
use Rattle.dj_asm_pool.proofs.FoundEntries.{string_sought}
use Rattle.dj_asm_pool.proofs.pool.PoolBuilder.string_index.Goals as goal

pub returns : goal.returns
returns c = c.sought.ensures (Text c.args.text.now) (string_sought c.args.self.now c.args.text.now c.utf8_index-index.result c.utf8_index-index.ensures)
