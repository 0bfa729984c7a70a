use Rattle.std.proofs.Common.{refl}
use Rattle.dj_asm_pool.specs.trusted.Entries.{Integer}
use Rattle.dj_asm_pool.proofs.pool.PoolBuilder.integer.Goals as goal

pub add-requires : goal.add-requires
add-requires c = (Integer _, record { no_text = tt; constant = refl; named = tt })
