use Rattle.std.proofs.Common.{arith}
use Rattle.dj_natives_tests.proofs.KnownObjects.{known_instance}
use Rattle.dj_natives_tests.proofs.known.is_known.Goals as goal

pub returns-in-Instance : goal.returns-in-Instance
returns-in-Instance c = λ t.
    known_instance c.args.few.now.boxed c.args.heap.now c.args.r c.class_of-class.result c.class_count.result c.class_of-class.ensures
    (omega (arith, c.if-count-class.false, c.count.ensures)) c.in-Instance.ensures c.class_count.ensures t
