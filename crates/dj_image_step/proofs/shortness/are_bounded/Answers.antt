use Rattle.std.proofs.Common.{arith}
use Rattle.dj_image_step.proofs.ShortTables.{all_bounded, none_below, one_more}
use Rattle.dj_image_step.proofs.shortness.are_bounded.Goals as goal

pub loop-number-init : goal.loop-number-init
loop-number-init c = none_below c.args.image.now

pub loop-number-preserved : goal.loop-number-preserved
loop-number-preserved c = one_more c.args.image.now c.loop-number.number c.loop-number.invariant (c.is_bounded.ensures c.if-not-is_bounded.false)

pub returns : goal.returns
returns c = λ bounded. all_bounded c.args.image.now c.loop-number.number c.loop-number.invariant (omega (arith, c.in_ok-count.ensures, c.loop-number-test.false))
