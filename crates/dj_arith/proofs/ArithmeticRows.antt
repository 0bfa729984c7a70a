-- The definitions of arithmetic at plain values, whose results were computed elsewhere.
use Rattle.std.proofs.Common.{◌≡◌, ℤ, pos, negsuc, ◌+ℤ◌, ◌-ℤ◌, ◌^◌, [], ◌∷◌, map, refl}
use Rattle.std.specs.Prelude.{◌*ℤ◌, int_rem}
use Rattle.std.specs.Int.{w8, w16, w32, w64, int_wrap, int_rem_euclid, int_bit_and, int_bit_or, int_bit_xor, int_wrapping_div, int_wrapping_neg, int_shl, int_shr}
use Rattle.dj_arith.specs.Arithmetic.{int_count, long_count, unsigned_shift, compared}

add_int_1 : map (λ (p : ℤ × ℤ). int_wrap w32 (p.0 +ℤ p.1))
    ((pos 0, pos 0) ∷ (pos 1, pos 2) ∷ (negsuc 0, pos 1) ∷ (pos 2147483647, pos 1) ∷ (negsuc 2147483647, negsuc 0) ∷ (negsuc 2147483647, pos 1) ∷ (pos 7, negsuc 1) ∷ (negsuc 6, pos 2) ∷ (negsuc 6, negsuc 1) ∷ (pos 65536, pos 65536) ∷ (pos 46341, pos 46341) ∷ (pos 1431655765, pos 858993459) ∷ [])
    ≡ pos 0 ∷ pos 3 ∷ pos 0 ∷ negsuc 2147483647 ∷ pos 2147483647 ∷ negsuc 2147483646 ∷ pos 5 ∷ negsuc 4 ∷ negsuc 8 ∷ pos 131072 ∷ pos 92682 ∷ negsuc 2004318071 ∷ []
unfolding int_wrap
add_int_1 = refl

add_int_2 : map (λ (p : ℤ × ℤ). int_wrap w32 (p.0 +ℤ p.1))
    ((negsuc 0, negsuc 0) ∷ (pos 5, pos 0) ∷ (negsuc 2147483647, pos 2147483647) ∷ [])
    ≡ negsuc 1 ∷ pos 5 ∷ negsuc 0 ∷ []
unfolding int_wrap
add_int_2 = refl

sub_int_1 : map (λ (p : ℤ × ℤ). int_wrap w32 (p.0 -ℤ p.1))
    ((pos 0, pos 0) ∷ (pos 1, pos 2) ∷ (negsuc 0, pos 1) ∷ (pos 2147483647, pos 1) ∷ (negsuc 2147483647, negsuc 0) ∷ (negsuc 2147483647, pos 1) ∷ (pos 7, negsuc 1) ∷ (negsuc 6, pos 2) ∷ (negsuc 6, negsuc 1) ∷ (pos 65536, pos 65536) ∷ (pos 46341, pos 46341) ∷ (pos 1431655765, pos 858993459) ∷ [])
    ≡ pos 0 ∷ negsuc 0 ∷ negsuc 1 ∷ pos 2147483646 ∷ negsuc 2147483646 ∷ pos 2147483647 ∷ pos 9 ∷ negsuc 8 ∷ negsuc 4 ∷ pos 0 ∷ pos 0 ∷ pos 572662306 ∷ []
unfolding int_wrap
sub_int_1 = refl

sub_int_2 : map (λ (p : ℤ × ℤ). int_wrap w32 (p.0 -ℤ p.1))
    ((negsuc 0, negsuc 0) ∷ (pos 5, pos 0) ∷ (negsuc 2147483647, pos 2147483647) ∷ [])
    ≡ pos 0 ∷ pos 5 ∷ pos 1 ∷ []
unfolding int_wrap
sub_int_2 = refl

mul_int_1 : map (λ (p : ℤ × ℤ). int_wrap w32 (p.0 *ℤ p.1))
    ((pos 0, pos 0) ∷ (pos 1, pos 2) ∷ (negsuc 0, pos 1) ∷ (pos 2147483647, pos 1) ∷ (negsuc 2147483647, negsuc 0) ∷ (negsuc 2147483647, pos 1) ∷ (pos 7, negsuc 1) ∷ (negsuc 6, pos 2) ∷ (negsuc 6, negsuc 1) ∷ (pos 65536, pos 65536) ∷ (pos 46341, pos 46341) ∷ (pos 1431655765, pos 858993459) ∷ [])
    ≡ pos 0 ∷ pos 2 ∷ negsuc 0 ∷ pos 2147483647 ∷ negsuc 2147483647 ∷ negsuc 2147483647 ∷ negsuc 13 ∷ negsuc 13 ∷ pos 14 ∷ pos 0 ∷ negsuc 2147479014 ∷ negsuc 286331152 ∷ []
unfolding int_wrap
mul_int_1 = refl

mul_int_2 : map (λ (p : ℤ × ℤ). int_wrap w32 (p.0 *ℤ p.1))
    ((negsuc 0, negsuc 0) ∷ (pos 5, pos 0) ∷ (negsuc 2147483647, pos 2147483647) ∷ [])
    ≡ pos 1 ∷ pos 0 ∷ negsuc 2147483647 ∷ []
unfolding int_wrap
mul_int_2 = refl

and_int : map (λ (p : ℤ × ℤ). int_bit_and w32 p.0 p.1)
    ((pos 1, pos 2) ∷ (pos 2147483647, pos 1) ∷ (negsuc 2147483647, pos 1) ∷ (negsuc 6, pos 2) ∷ (pos 65536, pos 65536) ∷ (pos 1431655765, pos 858993459) ∷ [])
    ≡ pos 0 ∷ pos 1 ∷ pos 0 ∷ pos 0 ∷ pos 65536 ∷ pos 286331153 ∷ []
and_int = refl

or_int : map (λ (p : ℤ × ℤ). int_bit_or w32 p.0 p.1)
    ((pos 1, pos 2) ∷ (pos 2147483647, pos 1) ∷ (negsuc 2147483647, pos 1) ∷ (negsuc 6, pos 2) ∷ (pos 65536, pos 65536) ∷ (pos 1431655765, pos 858993459) ∷ [])
    ≡ pos 3 ∷ pos 2147483647 ∷ negsuc 2147483646 ∷ negsuc 4 ∷ pos 65536 ∷ pos 2004318071 ∷ []
or_int = refl

xor_int : map (λ (p : ℤ × ℤ). int_bit_xor w32 p.0 p.1)
    ((pos 1, pos 2) ∷ (pos 2147483647, pos 1) ∷ (negsuc 2147483647, pos 1) ∷ (negsuc 6, pos 2) ∷ (pos 65536, pos 65536) ∷ (pos 1431655765, pos 858993459) ∷ [])
    ≡ pos 3 ∷ pos 2147483646 ∷ negsuc 2147483646 ∷ negsuc 4 ∷ pos 0 ∷ pos 1717986918 ∷ []
xor_int = refl

div_int_1 : map (λ (p : ℤ × ℤ). int_wrapping_div w32 p.0 p.1)
    ((pos 1, pos 2) ∷ (negsuc 0, pos 1) ∷ (pos 2147483647, pos 1) ∷ (negsuc 2147483647, negsuc 0) ∷ (negsuc 2147483647, pos 1) ∷ (pos 7, negsuc 1) ∷ (negsuc 6, pos 2) ∷ (negsuc 6, negsuc 1) ∷ (pos 65536, pos 65536) ∷ (pos 46341, pos 46341) ∷ (pos 1431655765, pos 858993459) ∷ (negsuc 0, negsuc 0) ∷ [])
    ≡ pos 0 ∷ negsuc 0 ∷ pos 2147483647 ∷ negsuc 2147483647 ∷ negsuc 2147483647 ∷ negsuc 2 ∷ negsuc 2 ∷ pos 3 ∷ pos 1 ∷ pos 1 ∷ pos 1 ∷ pos 1 ∷ []
div_int_1 = refl

div_int_2 : map (λ (p : ℤ × ℤ). int_wrapping_div w32 p.0 p.1)
    ((negsuc 2147483647, pos 2147483647) ∷ [])
    ≡ negsuc 0 ∷ []
div_int_2 = refl

rem_int_1 : map (λ (p : ℤ × ℤ). int_rem p.0 p.1)
    ((pos 1, pos 2) ∷ (negsuc 0, pos 1) ∷ (pos 2147483647, pos 1) ∷ (negsuc 2147483647, negsuc 0) ∷ (negsuc 2147483647, pos 1) ∷ (pos 7, negsuc 1) ∷ (negsuc 6, pos 2) ∷ (negsuc 6, negsuc 1) ∷ (pos 65536, pos 65536) ∷ (pos 46341, pos 46341) ∷ (pos 1431655765, pos 858993459) ∷ (negsuc 0, negsuc 0) ∷ [])
    ≡ pos 1 ∷ pos 0 ∷ pos 0 ∷ pos 0 ∷ pos 0 ∷ pos 1 ∷ negsuc 0 ∷ negsuc 0 ∷ pos 0 ∷ pos 0 ∷ pos 572662306 ∷ pos 0 ∷ []
rem_int_1 = refl

rem_int_2 : map (λ (p : ℤ × ℤ). int_rem p.0 p.1)
    ((negsuc 2147483647, pos 2147483647) ∷ [])
    ≡ negsuc 0 ∷ []
rem_int_2 = refl

shl_int : map (λ (p : ℤ × ℤ). int_shl w32 p.0 (int_count p.1))
    ((pos 1, pos 0) ∷ (pos 1, pos 31) ∷ (pos 1, pos 32) ∷ (pos 1, pos 33) ∷ (negsuc 0, pos 1) ∷ (negsuc 0, pos 31) ∷ (negsuc 0, negsuc 0) ∷ (negsuc 2147483647, pos 31) ∷ (negsuc 2147483647, pos 1) ∷ (pos 2147483647, pos 1) ∷ (pos 123456789, negsuc 2147483647) ∷ (pos 123456789, pos 5) ∷ [])
    ≡ pos 1 ∷ negsuc 2147483647 ∷ pos 1 ∷ pos 2 ∷ negsuc 1 ∷ negsuc 2147483647 ∷ negsuc 2147483647 ∷ pos 0 ∷ pos 0 ∷ negsuc 1 ∷ pos 123456789 ∷ negsuc 344350047 ∷ []
shl_int = refl

shr_int : map (λ (p : ℤ × ℤ). int_shr p.0 (int_count p.1))
    ((pos 1, pos 0) ∷ (pos 1, pos 31) ∷ (pos 1, pos 32) ∷ (pos 1, pos 33) ∷ (negsuc 0, pos 1) ∷ (negsuc 0, pos 31) ∷ (negsuc 0, negsuc 0) ∷ (negsuc 2147483647, pos 31) ∷ (negsuc 2147483647, pos 1) ∷ (pos 2147483647, pos 1) ∷ (pos 123456789, negsuc 2147483647) ∷ (pos 123456789, pos 5) ∷ [])
    ≡ pos 1 ∷ pos 0 ∷ pos 1 ∷ pos 0 ∷ negsuc 0 ∷ negsuc 0 ∷ negsuc 0 ∷ negsuc 0 ∷ negsuc 1073741823 ∷ pos 1073741823 ∷ pos 123456789 ∷ pos 3858024 ∷ []
shr_int = refl

ushr_int : map (λ (p : ℤ × ℤ). unsigned_shift w32 p.0 (int_count p.1))
    ((pos 1, pos 0) ∷ (pos 1, pos 31) ∷ (pos 1, pos 32) ∷ (pos 1, pos 33) ∷ (negsuc 0, pos 1) ∷ (negsuc 0, pos 31) ∷ (negsuc 0, negsuc 0) ∷ (negsuc 2147483647, pos 31) ∷ (negsuc 2147483647, pos 1) ∷ (pos 2147483647, pos 1) ∷ (pos 123456789, negsuc 2147483647) ∷ (pos 123456789, pos 5) ∷ [])
    ≡ pos 1 ∷ pos 0 ∷ pos 1 ∷ pos 0 ∷ pos 2147483647 ∷ pos 1 ∷ pos 1 ∷ pos 1 ∷ pos 1073741824 ∷ pos 1073741823 ∷ pos 123456789 ∷ pos 3858024 ∷ []
ushr_int = refl

neg_int : map (λ (n : ℤ). int_wrapping_neg w32 n)
    (pos 0 ∷ pos 1 ∷ negsuc 0 ∷ pos 2147483647 ∷ negsuc 2147483647 ∷ [])
    ≡ pos 0 ∷ negsuc 0 ∷ pos 1 ∷ negsuc 2147483646 ∷ negsuc 2147483647 ∷ []
neg_int = refl

neg_long : map (λ (n : ℤ). int_wrapping_neg w64 n)
    (pos 0 ∷ pos 1 ∷ negsuc 0 ∷ pos 9223372036854775807 ∷ negsuc 9223372036854775807 ∷ [])
    ≡ pos 0 ∷ negsuc 0 ∷ pos 1 ∷ negsuc 9223372036854775806 ∷ negsuc 9223372036854775807 ∷ []
neg_long = refl

add_long_1 : map (λ (p : ℤ × ℤ). int_wrap w64 (p.0 +ℤ p.1))
    ((pos 0, pos 0) ∷ (pos 1, negsuc 0) ∷ (pos 9223372036854775807, pos 1) ∷ (negsuc 9223372036854775807, negsuc 0) ∷ (negsuc 9223372036854775807, pos 1) ∷ (pos 7, negsuc 1) ∷ (negsuc 6, pos 2) ∷ (negsuc 6, negsuc 1) ∷ (pos 4294967296, pos 4294967296) ∷ (pos 3037000500, pos 3037000500) ∷ (pos 1234567890123456789, negsuc 987654320) ∷ (pos 5, pos 0) ∷ [])
    ≡ pos 0 ∷ pos 0 ∷ negsuc 9223372036854775807 ∷ pos 9223372036854775807 ∷ negsuc 9223372036854775806 ∷ pos 5 ∷ negsuc 4 ∷ negsuc 8 ∷ pos 8589934592 ∷ pos 6074001000 ∷ pos 1234567889135802468 ∷ pos 5 ∷ []
unfolding int_wrap
add_long_1 = refl

add_long_2 : map (λ (p : ℤ × ℤ). int_wrap w64 (p.0 +ℤ p.1))
    ((pos 1099511627776, negsuc 2) ∷ [])
    ≡ pos 1099511627773 ∷ []
unfolding int_wrap
add_long_2 = refl

sub_long_1 : map (λ (p : ℤ × ℤ). int_wrap w64 (p.0 -ℤ p.1))
    ((pos 0, pos 0) ∷ (pos 1, negsuc 0) ∷ (pos 9223372036854775807, pos 1) ∷ (negsuc 9223372036854775807, negsuc 0) ∷ (negsuc 9223372036854775807, pos 1) ∷ (pos 7, negsuc 1) ∷ (negsuc 6, pos 2) ∷ (negsuc 6, negsuc 1) ∷ (pos 4294967296, pos 4294967296) ∷ (pos 3037000500, pos 3037000500) ∷ (pos 1234567890123456789, negsuc 987654320) ∷ (pos 5, pos 0) ∷ [])
    ≡ pos 0 ∷ pos 2 ∷ pos 9223372036854775806 ∷ negsuc 9223372036854775806 ∷ pos 9223372036854775807 ∷ pos 9 ∷ negsuc 8 ∷ negsuc 4 ∷ pos 0 ∷ pos 0 ∷ pos 1234567891111111110 ∷ pos 5 ∷ []
unfolding int_wrap
sub_long_1 = refl

sub_long_2 : map (λ (p : ℤ × ℤ). int_wrap w64 (p.0 -ℤ p.1))
    ((pos 1099511627776, negsuc 2) ∷ [])
    ≡ pos 1099511627779 ∷ []
unfolding int_wrap
sub_long_2 = refl

mul_long_1 : map (λ (p : ℤ × ℤ). int_wrap w64 (p.0 *ℤ p.1))
    ((pos 0, pos 0) ∷ (pos 1, negsuc 0) ∷ (pos 9223372036854775807, pos 1) ∷ (negsuc 9223372036854775807, negsuc 0) ∷ (negsuc 9223372036854775807, pos 1) ∷ (pos 7, negsuc 1) ∷ (negsuc 6, pos 2) ∷ (negsuc 6, negsuc 1) ∷ (pos 4294967296, pos 4294967296) ∷ (pos 3037000500, pos 3037000500) ∷ (pos 1234567890123456789, negsuc 987654320) ∷ (pos 5, pos 0) ∷ [])
    ≡ pos 0 ∷ negsuc 0 ∷ pos 9223372036854775807 ∷ negsuc 9223372036854775807 ∷ negsuc 9223372036854775807 ∷ negsuc 13 ∷ negsuc 13 ∷ pos 14 ∷ pos 0 ∷ negsuc 9223372036709301615 ∷ pos 4036030183309260923 ∷ pos 0 ∷ []
unfolding int_wrap
mul_long_1 = refl

mul_long_2 : map (λ (p : ℤ × ℤ). int_wrap w64 (p.0 *ℤ p.1))
    ((pos 1099511627776, negsuc 2) ∷ [])
    ≡ negsuc 3298534883327 ∷ []
unfolding int_wrap
mul_long_2 = refl

and_long : map (λ (p : ℤ × ℤ). int_bit_and w64 p.0 p.1)
    ((pos 1, negsuc 0) ∷ (negsuc 9223372036854775807, pos 1) ∷ (negsuc 6, negsuc 1) ∷ (pos 1234567890123456789, negsuc 987654320) ∷ [])
    ≡ pos 1 ∷ pos 0 ∷ negsuc 7 ∷ pos 1234567889170825477 ∷ []
and_long = refl

or_long : map (λ (p : ℤ × ℤ). int_bit_or w64 p.0 p.1)
    ((pos 1, negsuc 0) ∷ (negsuc 9223372036854775807, pos 1) ∷ (negsuc 6, negsuc 1) ∷ (pos 1234567890123456789, negsuc 987654320) ∷ [])
    ≡ negsuc 0 ∷ negsuc 9223372036854775806 ∷ negsuc 0 ∷ negsuc 35023008 ∷ []
or_long = refl

xor_long : map (λ (p : ℤ × ℤ). int_bit_xor w64 p.0 p.1)
    ((pos 1, negsuc 0) ∷ (negsuc 9223372036854775807, pos 1) ∷ (negsuc 6, negsuc 1) ∷ (pos 1234567890123456789, negsuc 987654320) ∷ [])
    ≡ negsuc 1 ∷ negsuc 9223372036854775806 ∷ pos 7 ∷ negsuc 1234567889205848485 ∷ []
xor_long = refl

div_long : map (λ (p : ℤ × ℤ). int_wrapping_div w64 p.0 p.1)
    ((pos 1, negsuc 0) ∷ (pos 9223372036854775807, pos 1) ∷ (negsuc 9223372036854775807, negsuc 0) ∷ (negsuc 9223372036854775807, pos 1) ∷ (pos 7, negsuc 1) ∷ (negsuc 6, pos 2) ∷ (negsuc 6, negsuc 1) ∷ (pos 4294967296, pos 4294967296) ∷ (pos 3037000500, pos 3037000500) ∷ (pos 1234567890123456789, negsuc 987654320) ∷ (pos 1099511627776, negsuc 2) ∷ [])
    ≡ negsuc 0 ∷ pos 9223372036854775807 ∷ negsuc 9223372036854775807 ∷ negsuc 9223372036854775807 ∷ negsuc 2 ∷ negsuc 2 ∷ pos 3 ∷ pos 1 ∷ pos 1 ∷ negsuc 1249999987 ∷ negsuc 366503875924 ∷ []
div_long = refl

rem_long : map (λ (p : ℤ × ℤ). int_rem p.0 p.1)
    ((pos 1, negsuc 0) ∷ (pos 9223372036854775807, pos 1) ∷ (negsuc 9223372036854775807, negsuc 0) ∷ (negsuc 9223372036854775807, pos 1) ∷ (pos 7, negsuc 1) ∷ (negsuc 6, pos 2) ∷ (negsuc 6, negsuc 1) ∷ (pos 4294967296, pos 4294967296) ∷ (pos 3037000500, pos 3037000500) ∷ (pos 1234567890123456789, negsuc 987654320) ∷ (pos 1099511627776, negsuc 2) ∷ [])
    ≡ pos 0 ∷ pos 0 ∷ pos 0 ∷ pos 0 ∷ pos 1 ∷ negsuc 0 ∷ negsuc 0 ∷ pos 0 ∷ pos 0 ∷ pos 725308641 ∷ pos 1 ∷ []
rem_long = refl

shl_long : map (λ (p : ℤ × ℤ). int_shl w64 p.0 (long_count p.1))
    ((pos 1, pos 0) ∷ (pos 1, pos 63) ∷ (pos 1, pos 64) ∷ (pos 1, pos 65) ∷ (negsuc 0, pos 1) ∷ (negsuc 0, pos 63) ∷ (negsuc 0, negsuc 0) ∷ (negsuc 9223372036854775807, pos 63) ∷ (pos 1234567890123456789, pos 32) ∷ (pos 1234567890123456789, negsuc 2147483647) ∷ [])
    ≡ pos 1 ∷ negsuc 9223372036854775807 ∷ pos 1 ∷ pos 2 ∷ negsuc 1 ∷ negsuc 9223372036854775807 ∷ negsuc 9223372036854775807 ∷ pos 0 ∷ pos 9072924851508871168 ∷ pos 1234567890123456789 ∷ []
shl_long = refl

shr_long : map (λ (p : ℤ × ℤ). int_shr p.0 (long_count p.1))
    ((pos 1, pos 0) ∷ (pos 1, pos 63) ∷ (pos 1, pos 64) ∷ (pos 1, pos 65) ∷ (negsuc 0, pos 1) ∷ (negsuc 0, pos 63) ∷ (negsuc 0, negsuc 0) ∷ (negsuc 9223372036854775807, pos 63) ∷ (pos 1234567890123456789, pos 32) ∷ (pos 1234567890123456789, negsuc 2147483647) ∷ [])
    ≡ pos 1 ∷ pos 0 ∷ pos 1 ∷ pos 0 ∷ negsuc 0 ∷ negsuc 0 ∷ negsuc 0 ∷ negsuc 0 ∷ pos 287445236 ∷ pos 1234567890123456789 ∷ []
shr_long = refl

ushr_long : map (λ (p : ℤ × ℤ). unsigned_shift w64 p.0 (long_count p.1))
    ((pos 1, pos 0) ∷ (pos 1, pos 63) ∷ (pos 1, pos 64) ∷ (pos 1, pos 65) ∷ (negsuc 0, pos 1) ∷ (negsuc 0, pos 63) ∷ (negsuc 0, negsuc 0) ∷ (negsuc 9223372036854775807, pos 63) ∷ (pos 1234567890123456789, pos 32) ∷ (pos 1234567890123456789, negsuc 2147483647) ∷ [])
    ≡ pos 1 ∷ pos 0 ∷ pos 1 ∷ pos 0 ∷ pos 9223372036854775807 ∷ pos 1 ∷ pos 1 ∷ pos 1 ∷ pos 287445236 ∷ pos 1234567890123456789 ∷ []
ushr_long = refl

int_to_byte_1 : map (λ (n : ℤ). int_wrap w8 n)
    (pos 0 ∷ negsuc 0 ∷ pos 127 ∷ pos 128 ∷ pos 255 ∷ pos 256 ∷ negsuc 128 ∷ pos 32767 ∷ pos 32768 ∷ pos 65535 ∷ pos 65536 ∷ negsuc 32768 ∷ [])
    ≡ pos 0 ∷ negsuc 0 ∷ pos 127 ∷ negsuc 127 ∷ negsuc 0 ∷ pos 0 ∷ pos 127 ∷ negsuc 0 ∷ pos 0 ∷ negsuc 0 ∷ pos 0 ∷ negsuc 0 ∷ []
unfolding int_wrap
int_to_byte_1 = refl

int_to_byte_2 : map (λ (n : ℤ). int_wrap w8 n)
    (pos 2147483647 ∷ negsuc 2147483647 ∷ [])
    ≡ negsuc 0 ∷ pos 0 ∷ []
unfolding int_wrap
int_to_byte_2 = refl

int_to_char_1 : map (λ (n : ℤ). int_rem_euclid n (pos (2 ^ 16)))
    (pos 0 ∷ negsuc 0 ∷ pos 127 ∷ pos 128 ∷ pos 255 ∷ pos 256 ∷ negsuc 128 ∷ pos 32767 ∷ pos 32768 ∷ pos 65535 ∷ pos 65536 ∷ negsuc 32768 ∷ [])
    ≡ pos 0 ∷ pos 65535 ∷ pos 127 ∷ pos 128 ∷ pos 255 ∷ pos 256 ∷ pos 65407 ∷ pos 32767 ∷ pos 32768 ∷ pos 65535 ∷ pos 0 ∷ pos 32767 ∷ []
int_to_char_1 = refl

int_to_char_2 : map (λ (n : ℤ). int_rem_euclid n (pos (2 ^ 16)))
    (pos 2147483647 ∷ negsuc 2147483647 ∷ [])
    ≡ pos 65535 ∷ pos 0 ∷ []
int_to_char_2 = refl

int_to_short_1 : map (λ (n : ℤ). int_wrap w16 n)
    (pos 0 ∷ negsuc 0 ∷ pos 127 ∷ pos 128 ∷ pos 255 ∷ pos 256 ∷ negsuc 128 ∷ pos 32767 ∷ pos 32768 ∷ pos 65535 ∷ pos 65536 ∷ negsuc 32768 ∷ [])
    ≡ pos 0 ∷ negsuc 0 ∷ pos 127 ∷ pos 128 ∷ pos 255 ∷ pos 256 ∷ negsuc 128 ∷ pos 32767 ∷ negsuc 32767 ∷ negsuc 0 ∷ pos 0 ∷ pos 32767 ∷ []
unfolding int_wrap
int_to_short_1 = refl

int_to_short_2 : map (λ (n : ℤ). int_wrap w16 n)
    (pos 2147483647 ∷ negsuc 2147483647 ∷ [])
    ≡ negsuc 0 ∷ pos 0 ∷ []
unfolding int_wrap
int_to_short_2 = refl

long_to_int_1 : map (λ (n : ℤ). int_wrap w32 n)
    (pos 0 ∷ pos 1 ∷ negsuc 0 ∷ pos 2 ∷ negsuc 2 ∷ pos 63 ∷ pos 64 ∷ pos 2147483648 ∷ negsuc 2147483647 ∷ pos 4294967295 ∷ pos 4294967296 ∷ pos 3037000500 ∷ [])
    ≡ pos 0 ∷ pos 1 ∷ negsuc 0 ∷ pos 2 ∷ negsuc 2 ∷ pos 63 ∷ pos 64 ∷ negsuc 2147483647 ∷ negsuc 2147483647 ∷ negsuc 0 ∷ pos 0 ∷ negsuc 1257966795 ∷ []
unfolding int_wrap
long_to_int_1 = refl

long_to_int_2 : map (λ (n : ℤ). int_wrap w32 n)
    (pos 9223372036854775807 ∷ negsuc 9223372036854775807 ∷ pos 1234567890123456789 ∷ negsuc 9223372036854775806 ∷ [])
    ≡ negsuc 0 ∷ pos 0 ∷ pos 2112454933 ∷ pos 1 ∷ []
unfolding int_wrap
long_to_int_2 = refl

cmp_long : map (λ (p : ℤ × ℤ). compared p.0 p.1)
    ((pos 0, pos 0) ∷ (pos 1, pos 0) ∷ (pos 0, pos 1) ∷ (negsuc 0, pos 1) ∷ (negsuc 9223372036854775807, pos 9223372036854775807) ∷ (pos 9223372036854775807, negsuc 9223372036854775807) ∷ (pos 4294967296, pos 1) ∷ (negsuc 9223372036854775807, negsuc 9223372036854775807) ∷ [])
    ≡ pos 0 ∷ pos 1 ∷ negsuc 0 ∷ negsuc 0 ∷ negsuc 0 ∷ pos 1 ∷ pos 1 ∷ pos 0 ∷ []
cmp_long = refl
