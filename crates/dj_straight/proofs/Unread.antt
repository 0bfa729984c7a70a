-- Bodies that were not read.
use Rattle.std.proofs.Common.{◌≡◌, ℕ, false, List, Err}
use Rattle.dj_pool.specs.declared.pool.PoolError.TheVariants as pool_errors
use Rattle.dj_class.specs.declared.class.ClassError.{ClassError}
use Rattle.dj_class.specs.declared.class.ClassError.TheVariants as class_errors
use Rattle.dj_class.specs.trusted.Code.{CodeInfo, IsCode}
use Rattle.dj_class.specs.CodeViews.{ReadsCode}
use Rattle.dj_class.proofs.CodeLaws.{faulty_is_no_code}
use Rattle.dj_class.specs.Memory.{is_memory}

-- a body that was not read is no Code attribute's, unless memory ran out
pub no_code : (body : List ℕ) (e : ClassError) → ReadsCode body (Err e) → is_memory e ≡ false → (info : CodeInfo) → IsCode body info → ⊥
no_code body class_errors.Magic r m = faulty_is_no_code body _ r
no_code body (class_errors.Cut place) r m = faulty_is_no_code body _ r
no_code body (class_errors.Pool (pool_errors.Cut place)) r m = faulty_is_no_code body _ r
no_code body (class_errors.Pool (pool_errors.Tag place)) r m = faulty_is_no_code body _ r
no_code body (class_errors.Pool (pool_errors.Link index)) r m = faulty_is_no_code body _ r
no_code body (class_errors.Pool (pool_errors.Text index)) r m = faulty_is_no_code body _ r
no_code body (class_errors.Pool pool_errors.Memory) r m = absurd cc
no_code body (class_errors.Index place) r m = faulty_is_no_code body _ r
no_code body (class_errors.Trailing place) r m = faulty_is_no_code body _ r
no_code body class_errors.Memory r m = absurd cc
