use Rattle.std.proofs.Common.{arith}
use Rattle.dj_step.proofs.InputLaws.{holds, zeros}
use Rattle.dj_step.proofs.input.input_heap.Goals as goal

pub fill-requires-clause-zeros : goal.fill-requires-clause-zeros
fill-requires-clause-zeros c =
    zeros c.args.input.now c.args.limit c.bytes_class-class.result c.in-Ok.count c.in_ok-array.field-0 _ c.array.new.self c.new-heap.ensures (omega (arith, c.in-Ok.ensures)) c.in_ok-array.ensures.made

pub returns-clause-holds : goal.returns-clause-holds
returns-clause-holds c =
    holds c.args.image.now c.args.input.now c.args.limit c.bytes_class-class.result c.in-Ok.count c.in_ok-array.field-0 _ c.array.new.self c.fill.new.heap c.bytes_class-class.ensures c.new-heap.ensures
    (omega (arith, c.in-Ok.ensures)) c.in_ok-array.ensures.made c.fill.ensures
