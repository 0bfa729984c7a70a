use Rattle.std.proofs.Common.{◌<◌, ℕ, arith, subst, sym}
use Rattle.dj_command_line.proofs.Decimal.{under_nine_digits}
use Rattle.dj_command_line.proofs.number.decimal.Goals as goal

pub overflow_mul-value : goal.overflow_mul-value
overflow_mul-value c =
    let small : c.loop-digit.value < 1000000000 = subst (λ (n : ℕ). n < 1000000000) (sym c.loop-digit.invariant.1)
    (under_nine_digits c.args.digits.now c.loop-digit.digit-index c.loop-digit-test.true c.requires.few c.loop-digit.invariant.0) in
    omega (arith, small)

pub overflow_add-value : goal.overflow_add-value
overflow_add-value c =
    let small : c.loop-digit.value < 1000000000 = subst (λ (n : ℕ). n < 1000000000) (sym c.loop-digit.invariant.1)
    (under_nine_digits c.args.digits.now c.loop-digit.digit-index c.loop-digit-test.true c.requires.few c.loop-digit.invariant.0) in
    omega (arith, small, c.from.ensures, c.type_inv.digits c.loop-digit.digit-index)
