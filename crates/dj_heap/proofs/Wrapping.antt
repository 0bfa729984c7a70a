-- What is left of a number at fewer bits.
use Rattle.std.proofs.Common.{◌≡◌, ◌^◌, ℤ, pos, refl}
use Rattle.std.specs.Int.{w8, w16, w32, int_wrap, int_rem_euclid, cast_signed}
use Rattle.std.specs.Prelude.{unsigned_abs}

pub low_byte : (a : ℤ) → int_wrap w8 a ≡ cast_signed w8 (unsigned_abs (int_rem_euclid a (pos (2 ^ 8))))
unfolding int_wrap
low_byte a = refl

pub low_short : (a : ℤ) → int_wrap w16 a ≡ cast_signed w16 (unsigned_abs (int_rem_euclid a (pos (2 ^ 16))))
unfolding int_wrap
low_short a = refl

pub low_int : (a : ℤ) → int_wrap w32 a ≡ cast_signed w32 (unsigned_abs (int_rem_euclid a (pos (2 ^ 32))))
unfolding int_wrap
low_int a = refl
