use Rattle.dj_natives_tests.proofs.KindsTaken.{kinds_all}
use Rattle.dj_natives_tests.proofs.taken.are_of_kinds.Goals as goal

pub returns : goal.returns
returns c = λ t. kinds_all c.args.values.now c.args.kinds.now c.loop-at.at c.if-values-kinds.false c.loop-at-test.false c.loop-at.invariant
