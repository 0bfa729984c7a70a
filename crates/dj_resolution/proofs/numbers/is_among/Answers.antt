use Rattle.std.proofs.Common.{refl, sym}
use Rattle.dj_resolution.proofs.Subclasses.{passed_here, passed_more, passed_end}
use Rattle.dj_resolution.proofs.numbers.is_among.Goals as goal

pub loop-other-init : goal.loop-other-init
loop-other-init c = record { same = refl }

pub returns-then-other-number : goal.returns-then-other-number
returns-then-other-number c = sym (passed_here c.args.numbers.now c.args.number c.loop-other.other-index c.loop-other.invariant c.loop-other-test.true c.if-other-number.true)

pub loop-other-preserved : goal.loop-other-preserved
loop-other-preserved c = passed_more c.args.numbers.now c.args.number c.loop-other.other-index c.loop-other.invariant c.loop-other-test.true c.if-other-number.false

pub returns : goal.returns
returns c = passed_end c.args.numbers.now c.args.number c.loop-other.other-index c.loop-other.invariant c.loop-other-test.false
