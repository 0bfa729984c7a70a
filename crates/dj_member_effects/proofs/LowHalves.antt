-- The low 32 bits of a number.
use Rattle.std.proofs.Common.{◌≡◌, ◌^◌, ◌%◌, ℕ, pos, refl}
use Rattle.std.specs.Int.{w32, int_wrap, cast_signed}

pub low_half : (n : ℕ) → int_wrap w32 (pos n) ≡ cast_signed w32 (n % 2 ^ 32)
unfolding int_wrap
low_half n = refl
