-- How large a number of a few digits is.
use Rattle.std.proofs.Common.{◌≡◌, ◌<◌, ◌≤◌, ◌+◌, ◌-◌, ◌*◌, ◌&&◌, ℕ, zero, suc, Bool, true, false, List, [], ◌∷◌, length, take, refl, arith, true≢false, sym}
use Rattle.std.proofs.lemmas.Bool.Decides.{nat_tests}
use Rattle.std.proofs.Common.{length-take-le}
use Rattle.std.specs.Prelude.{fold}
use Rattle.std.specs.List.{list_all}
use Rattle.std.specs.Char.{is_ascii_digit}
use Rattle.dj_command_line.specs.trusted.Words.{decimal_value}

-- m, with k zeros after it
abbrev with_zeros : ℕ → ℕ → ℕ
with_zeros zero m = m
with_zeros (suc k) m = with_zeros k (m * 10)

at_least : (k m : ℕ) → m ≤ with_zeros k m
at_least zero m = omega arith
at_least (suc k) m = omega (arith, at_least k (m * 10))

both : (a b : Bool) → (a && b) ≡ true → (a ≡ true) × (b ≡ true)
both true b e = (refl, e)
both false b e = absurd (true≢false (sym e))

digit_most : (d : ℕ) → is_ascii_digit d ≡ true → d - 48 ≤ 9
digit_most d is = grind (arith, nat_tests)

abbrev step : ℕ → ℕ → ℕ
step n digit = n * 10 + (digit - 48)

under : (k m n : ℕ) (ds : List ℕ) → length ds ≤ k → list_all is_ascii_digit ds ≡ true → n < m → fold step n ds < with_zeros k m
under k m n [] short digits below = omega (arith, at_least k m)
under zero m n (d ∷ ds) short digits below = absurd (omega arith)
under (suc k) m n (d ∷ ds) short digits below =
    let each = both (is_ascii_digit d) (list_all is_ascii_digit ds) digits in
    let most : d - 48 ≤ 9 = digit_most d each.0 in
    let next : n * 10 + (d - 48) < m * 10 = omega arith in
    under k (m * 10) (n * 10 + (d - 48)) ds (omega arith) each.1 next

pub under_nine_digits : (ds : List ℕ) (i : ℕ) → i < length ds → length ds ≤ 10 → list_all is_ascii_digit (take i ds) ≡ true → decimal_value (take i ds) < 1000000000
under_nine_digits ds i inside short digits = under 9 1 0 (take i ds) (omega (arith, length-take-le i ds)) digits (omega arith)
