use Rattle.dj_natives_tests.specs.Few.{few_types}
use Rattle.dj_natives_tests.proofs.KnownObjects.{known_all}
use Rattle.dj_natives_tests.proofs.known.are_known.Goals as goal

pub returns : goal.returns
returns c = λ t. known_all (few_types c.args.few.now.boxed) c.args.heap.now c.count-at-end.result c.loop-at.at c.count-at-end.ensures c.loop-at-test.false c.loop-at.invariant
