-- Which numbers fit their fields, at both ends of each.
use Rattle.std.proofs.Common.{◌≡◌, ℕ, ◌^◌, ◌<◌, true, false, pos, negsuc, [], Some, refl, ap, nat_abs, arith}
use Rattle.std.proofs.Math.Facts.{sfits_lit}
use Rattle.std.proofs.lemmas.Int.{ints}
use Rattle.dj_asm_source.specs.trusted.Lines.{Version, Field, Stack, Locals, IntValue, LongValue, Local, LoadLong, Dynamic, Multi, FitsBits, IsSized, IsSizedOperation}

-- ---- numbers without sign

fits : (bits m : ℕ) → m < 2 ^ bits → FitsBits bits (pos m)
fits bits m below = (m, refl, below)

past : (bits m : ℕ) → (m < 2 ^ bits → ⊥) → FitsBits bits (pos m) → ⊥
past bits m not_below (k, is, below) =
    let same : m ≡ k = ap nat_abs is in
    not_below (rw same below)

below_zero : (bits m : ℕ) → FitsBits bits (negsuc m) → ⊥
below_zero bits m (k, is, below) = absurd cc

-- versions have 16 bits
pub greatest_version : IsSized (Version (pos 65535) (pos 65535))
greatest_version = (fits 16 65535 (omega arith), fits 16 65535 (omega arith))

pub large_major : IsSized (Version (pos 65536) (pos 0)) → ⊥
large_major sized = past 16 65536 (λ below. omega (arith, below)) sized.0

pub large_minor : IsSized (Version (pos 52) (pos 65536)) → ⊥
large_minor sized = past 16 65536 (λ below. omega (arith, below)) sized.1

minus_major : IsSized (Version (negsuc 0) (pos 0)) → ⊥
minus_major sized = below_zero 16 0 sized.0

-- so have the sizes of a frame
greatest_stack : IsSized (Stack (pos 65535))
greatest_stack = fits 16 65535 (omega arith)

large_stack : IsSized (Stack (pos 65536)) → ⊥
large_stack sized = past 16 65536 (λ below. omega (arith, below)) sized

greatest_locals : IsSized (Locals (pos 65535))
greatest_locals = fits 16 65535 (omega arith)

large_locals : IsSized (Locals (pos 65536)) → ⊥
large_locals sized = past 16 65536 (λ below. omega (arith, below)) sized

-- a slot has 8 bits, and 16 after `wide`: lload 255, wide lload 256
last_slot : IsSizedOperation (Local false 22 (pos 255))
last_slot = fits 8 255 (omega arith)

no_next_slot : IsSizedOperation (Local false 22 (pos 256)) → ⊥
no_next_slot sized = past 8 256 (λ below. omega (arith, below)) sized

wide_slots : IsSizedOperation (Local true 22 (pos 256)) × IsSizedOperation (Local true 22 (pos 65535))
wide_slots = (fits 16 256 (omega arith), fits 16 65535 (omega arith))

no_wider_slot : IsSizedOperation (Local true 22 (pos 65536)) → ⊥
no_wider_slot sized = past 16 65536 (λ below. omega (arith, below)) sized

-- a row of the bootstrap methods has 16 bits, and dimensions have 8
last_row : IsSizedOperation (Dynamic (pos 65535) [] [])
last_row = fits 16 65535 (omega arith)

no_next_row : IsSizedOperation (Dynamic (pos 65536) [] []) → ⊥
no_next_row sized = past 16 65536 (λ below. omega (arith, below)) sized

most_dimensions : IsSizedOperation (Multi [] (pos 255))
most_dimensions = fits 8 255 (omega arith)

no_more_dimensions : IsSizedOperation (Multi [] (pos 256)) → ⊥
no_more_dimensions sized = past 8 256 (λ below. omega (arith, below)) sized

-- ---- numbers with a sign

-- a long that is loaded has 64 bits: from -9223372036854775808 to 9223372036854775807
longs : IsSizedOperation (LoadLong (pos 2147483648)) × IsSizedOperation (LoadLong (pos 9223372036854775807)) × IsSizedOperation (LoadLong (negsuc 9223372036854775807))
longs = (sfits_lit tt, sfits_lit tt, sfits_lit tt)

no_longer : IsSizedOperation (LoadLong (pos 9223372036854775808)) → ⊥
no_longer sized = omega (arith, ints, sized)

no_lower : IsSizedOperation (LoadLong (negsuc 9223372036854775808)) → ⊥
no_lower sized = omega (arith, ints, sized)

-- and so has the constant of a field
long_value : IsSized (Field 0 [] [] (Some (LongValue (pos 2147483648))))
long_value = sfits_lit tt

no_int_value : IsSized (Field 0 [] [] (Some (IntValue (pos 2147483648)))) → ⊥
no_int_value sized = omega (arith, ints, sized)
