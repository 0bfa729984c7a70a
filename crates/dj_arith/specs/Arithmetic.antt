-- Shifts and comparisons of whole numbers (JVMS 6.5). All else is std's.
use Rattle.std.specs.Prelude.{ℕ, ◌/◌, ◌^◌, ℤ, pos, negsuc, unsigned_abs, int_lt, if◌then◌else◌}
use Rattle.std.specs.Int.{Width, int_rem_euclid, cast_signed, cast_unsigned}

-- JVMS 6.5, ishl: the low 5 bits of the count
abbrev pub int_count : ℤ → ℕ
int_count count = unsigned_abs (int_rem_euclid count (pos 32))

-- JVMS 6.5, lshl: the low 6 bits of the count
abbrev pub long_count : ℤ → ℕ
long_count count = unsigned_abs (int_rem_euclid count (pos 64))

-- JVMS 6.5, iushr: zeros come in from the left
abbrev pub unsigned_shift : Width → ℤ → ℕ → ℤ
unsigned_shift width a count = cast_signed width (cast_unsigned width a / 2 ^ count)

-- JVMS 6.5, lcmp: -1, 0 or 1
abbrev pub compared : ℤ → ℤ → ℤ
compared a b = if int_lt a b then negsuc 0 else (if int_lt b a then pos 1 else pos 0)
