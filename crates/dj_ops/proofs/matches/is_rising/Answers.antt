use Rattle.std.proofs.Common.{arith}
use Rattle.dj_ops.proofs.Rising.{rise_more, rise_to_end, falls_at}
use Rattle.dj_ops.proofs.matches.is_rising.Goals as goal

pub returns-then-not-is_below : goal.returns-then-not-is_below
returns-then-not-is_below c =
    falls_at c.args.pairs.now c.loop-i.i _ _ (omega (arith, c.loop-i.auto.i)) (omega (arith, c.loop-i-test.true)) c.if-not-is_below.ensures

pub loop-i-preserved : goal.loop-i-preserved
loop-i-preserved c =
    rise_more c.args.pairs.now c.loop-i.i _ _ c.loop-i.invariant (omega (arith, c.loop-i.auto.i)) (omega (arith, c.loop-i-test.true)) c.if-not-is_below.ensures

pub returns : goal.returns
returns c = rise_to_end c.args.pairs.now c.loop-i.i (omega (arith, c.loop-i-test.false)) c.loop-i.invariant
