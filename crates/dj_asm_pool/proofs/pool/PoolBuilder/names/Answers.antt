use Rattle.std.proofs.Common.{subst}
use Rattle.dj_asm_pool.specs.trusted.Entries.{Utf8}
use Rattle.dj_asm_pool.specs.Pooling.{PutsOne}
use Rattle.dj_asm_pool.proofs.PoolChains.{texts_put}
use Rattle.dj_asm_pool.proofs.pool.PoolBuilder.names.Goals as goal

pub returns : goal.returns
returns c =
    texts_put c.args.self.now c.utf8-2.new.self c.utf8-2-2.new.self c.args.name.now c.args.desc.now c.in-Some.name_index c.in-Some-2.desc_index
    (subst (λ r. PutsOne c.args.self.now (Utf8 c.args.name.now) c.utf8-2.new.self r) c.in-Some.is c.in_ok-name_index.ensures)
    (subst (λ r. PutsOne c.utf8-2.new.self (Utf8 c.args.desc.now) c.utf8-2-2.new.self r) c.in-Some-2.is c.in_ok-desc_index.ensures)
