use Rattle.std.proofs.Common.{arith}
use Rattle.dj_effects.proofs.ArrayFacts.{found_past, object_there}
use Rattle.dj_effects.proofs.arrays.array_reported.Goals as goal

pub returns-then-count-r : goal.returns-then-count-r
returns-then-count-r c = record { reported = found_past c.args.heap.now c.args.r (λ null. omega (arith, null)) (omega arith); few = tt }

pub made-requires : goal.made-requires
made-requires c = object_there c.args.heap.now c.args.r (λ null. omega (arith, null)) (omega arith)
