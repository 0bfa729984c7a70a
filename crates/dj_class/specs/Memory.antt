-- The errors that say nothing of what is read, since memory ran out.
use Rattle.std.specs.Prelude.{Bool, true, false}
use Rattle.dj_pool.specs.Memory.{pool_is_memory}
use Rattle.dj_class.specs.declared.class.ClassError.{ClassError}
use Rattle.dj_class.specs.declared.class.ClassError.TheVariants as class_errors

abbrev pub is_memory : ClassError → Bool
is_memory class_errors.Memory = true
is_memory (class_errors.Pool e) = pool_is_memory e
is_memory _ = false

-- of the body of a Code attribute, which has no pool
abbrev pub code_is_memory : ClassError → Bool
code_is_memory class_errors.Memory = true
code_is_memory _ = false
