-- Shifts and comparisons at plain values.
use Rattle.std.proofs.Common.{◌≡◌, pos, negsuc, [], ◌∷◌, map, refl}
use Rattle.std.specs.Int.{w32, w64}
use Rattle.dj_arith.specs.Arithmetic.{int_count, long_count, unsigned_shift, compared}

int_counts : map int_count (pos 0 ∷ pos 31 ∷ pos 32 ∷ pos 33 ∷ negsuc 0 ∷ negsuc 31 ∷ []) ≡ 0 ∷ 31 ∷ 0 ∷ 1 ∷ 31 ∷ 0 ∷ []
int_counts = refl

long_counts : map long_count (pos 0 ∷ pos 63 ∷ pos 64 ∷ pos 65 ∷ negsuc 0 ∷ negsuc 63 ∷ []) ≡ 0 ∷ 63 ∷ 0 ∷ 1 ∷ 63 ∷ 0 ∷ []
long_counts = refl

-- -1 shifted right by 0, 1 and 31 as an int, and by 63 as a long
shifted : map (unsigned_shift w32 (negsuc 0)) (0 ∷ 1 ∷ 31 ∷ []) ≡ negsuc 0 ∷ pos 2147483647 ∷ pos 1 ∷ []
shifted = refl

shifted_long : unsigned_shift w64 (negsuc 0) 63 ≡ pos 1
shifted_long = refl

comparisons : map (compared (pos 5)) (pos 5 ∷ pos 6 ∷ pos 4 ∷ negsuc 8 ∷ []) ≡ pos 0 ∷ negsuc 0 ∷ pos 1 ∷ pos 1 ∷ []
comparisons = refl

comparisons_below : map (compared (negsuc 4)) (negsuc 4 ∷ negsuc 5 ∷ negsuc 3 ∷ pos 0 ∷ []) ≡ pos 0 ∷ pos 1 ∷ negsuc 0 ∷ negsuc 0 ∷ []
comparisons_below = refl
