use Rattle.std.proofs.Common.{refl}
use Rattle.dj_asm_pool.specs.trusted.Entries.{Long}
use Rattle.dj_asm_pool.proofs.pool.PoolBuilder.long.Goals as goal

pub add-requires : goal.add-requires
add-requires c = (Long _, record { no_text = tt; constant = refl; named = tt })
