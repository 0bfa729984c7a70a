-- Flags by their bits, and by the test.
use Rattle.std.proofs.Common.{◌≡◌, ℕ, bit_and, ◌%◌, ◌/◌, ◌^◌, true, sym, ◌∙◌, eq-eqb, arith}
use Rattle.std.specs.Int.{bit_at, IsBitSet}
use Rattle.std.proofs.lemmas.Nat.{bit_set_by_shift, and_mask}
use Rattle.std.proofs.lemmas.Bool.Decides.{nat_tests}
use Rattle.dj_model.specs.trusted.Program.{has_flag}

low_bit : (n : ℕ) → bit_and n 1 ≡ n % 2
low_bit n = and_mask n 1

pub test_from_bit : (flags bit : ℕ) → IsBitSet flags bit → has_flag bit flags ≡ true
test_from_bit flags bit set = eq-eqb (bit_at flags bit) 1 (sym (low_bit (flags / 2 ^ bit)) ∙ (bit_set_by_shift flags bit).1 set)

pub bit_from_test : (flags bit : ℕ) → has_flag bit flags ≡ true → IsBitSet flags bit
bit_from_test flags bit e =
    let one : bit_at flags bit ≡ 1 = grind (arith, nat_tests, e) in
    (bit_set_by_shift flags bit).0 (low_bit (flags / 2 ^ bit) ∙ one)
