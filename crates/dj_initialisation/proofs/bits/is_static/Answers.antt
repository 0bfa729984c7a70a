use Rattle.std.proofs.Common.{◌≡◌, ℕ, not, nat_eq, bit_and, arith}
use Rattle.std.proofs.lemmas.Bool.Decides.{nat_tests}
use Rattle.std.proofs.lemmas.Nat.Bits.{and_pow, bit_at-lt}
use Rattle.dj_model.specs.trusted.Program.{is_static}
use Rattle.dj_initialisation.proofs.bits.is_static.Goals as goal

static_test : (flags : ℕ) → not (nat_eq (bit_and flags 8) 0) ≡ is_static flags
static_test flags = let e = and_pow flags 3 in let lt = bit_at-lt flags 3 in grind (arith, nat_tests)

pub returns : goal.returns
returns c = static_test c.args.flags
