-- The halves of numbers.
use Rattle.std.proofs.Common.{◌≡◌, ℕ, ◌+◌, ◌*◌, ◌/◌, ◌%◌, ◌<◌, FitsSigned, ℤ, ap, ◌∙◌, arith}
use Rattle.std.specs.Int.{w32, w64, cast_signed, cast_unsigned}
use Rattle.std.proofs.lemmas.Int.{to_z-of_z}

pub int_again : (z : ℤ) → FitsSigned w32 z → cast_signed w32 (cast_unsigned w32 z) ≡ z
int_again z fits = to_z-of_z w32 z fits

whole : (bits : ℕ) → (bits / 4294967296) * 4294967296 + bits % 4294967296 ≡ bits
whole bits = omega arith

pub long_again : (z : ℤ) → FitsSigned w64 z → cast_signed w64 ((cast_unsigned w64 z / 4294967296) * 4294967296 + cast_unsigned w64 z % 4294967296) ≡ z
long_again z fits = ap (cast_signed w64) (whole (cast_unsigned w64 z)) ∙ to_z-of_z w64 z fits

pub high_small : (bits : ℕ) → bits < 18446744073709551616 → bits / 4294967296 < 4294967296
high_small bits small = omega (arith, small)
