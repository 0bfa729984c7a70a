-- The error that says nothing of what is read, since memory ran out.
use Rattle.std.specs.Prelude.{Bool, true, false}
use Rattle.dj_pool.specs.declared.pool.PoolError.{PoolError}
use Rattle.dj_pool.specs.declared.pool.PoolError.TheVariants as pool_errors

abbrev pub pool_is_memory : PoolError → Bool
pool_is_memory pool_errors.Memory = true
pool_is_memory _ = false
