-- Signed numbers and their bytes.
use Rattle.std.proofs.Common.{◌≡◌, ℕ, ℤ, ◌^◌, ◌<◌, List, [], ◌∷◌, length, FitsSigned, ap, ◌∙◌, arith}
use Rattle.std.specs.Int.{w8, w16, w32, from_be_bytes, to_be_bytes, cast_signed, cast_unsigned}
use Rattle.std.proofs.lemmas.Int.{of_z-to_z, to_z-of_z, ints}
use Rattle.dj_cursor.specs.trusted.Spelling.{s1, s2, s4}
use Rattle.dj_cursor.proofs.Bytes.{IsBytes}
use Rattle.dj_cursor.proofs.Numbers.{wide16, wide32}

-- ---- bytes are spelled by the signed number that they are

pub s1-cast_signed : (b : ℕ) → b < 2 ^ 8 → s1 (cast_signed w8 b) ≡ b ∷ []
s1-cast_signed b lt = ap (λ (n : ℕ). n ∷ []) (of_z-to_z w8 b lt)

pub s2-cast_signed : (bytes : List ℕ) → length bytes ≡ 2 → IsBytes bytes → s2 (cast_signed w16 (from_be_bytes w16 bytes)) ≡ bytes
s2-cast_signed bytes len fits = ap (to_be_bytes w16) (of_z-to_z w16 (from_be_bytes w16 bytes) (wide16.below bytes fits)) ∙ wide16.back bytes len fits

pub s4-cast_signed : (bytes : List ℕ) → length bytes ≡ 4 → IsBytes bytes → s4 (cast_signed w32 (from_be_bytes w32 bytes)) ≡ bytes
s4-cast_signed bytes len fits = ap (to_be_bytes w32) (of_z-to_z w32 (from_be_bytes w32 bytes) (wide32.below bytes fits)) ∙ wide32.back bytes len fits

-- ---- a signed number that fits is the number of its bytes

unsigned_below_2 : (z : ℤ) → FitsSigned w16 z → cast_unsigned w16 z < 2 ^ 16
unsigned_below_2 z fits = omega (arith, ints, fits)

unsigned_below_4 : (z : ℤ) → FitsSigned w32 z → cast_unsigned w32 z < 2 ^ 32
unsigned_below_4 z fits = omega (arith, ints, fits)

pub cast_signed-s2 : (z : ℤ) → FitsSigned w16 z → cast_signed w16 (from_be_bytes w16 (s2 z)) ≡ z
cast_signed-s2 z fits = ap (cast_signed w16) (wide16.again (cast_unsigned w16 z) (unsigned_below_2 z fits)) ∙ to_z-of_z w16 z fits

pub cast_signed-s4 : (z : ℤ) → FitsSigned w32 z → cast_signed w32 (from_be_bytes w32 (s4 z)) ≡ z
cast_signed-s4 z fits = ap (cast_signed w32) (wide32.again (cast_unsigned w32 z) (unsigned_below_4 z fits)) ∙ to_z-of_z w32 z fits
