use Rattle.std.proofs.Common.{arith}
use Rattle.std.proofs.lemmas.Bool.{leb-true}
use Rattle.dj_parts_tests.proofs.Places.{object_here}
use Rattle.dj_parts_tests.proofs.heap.has_object.Goals as goal

pub returns-then-r-gt0 : goal.returns-then-r-gt0
returns-then-r-gt0 c = λ within.
    let below = leb-true c.args.r c.count.result within in
    object_here c.args.heap.now c.args.r c.if-r-gt0.true (omega (arith, below, c.count.ensures))
