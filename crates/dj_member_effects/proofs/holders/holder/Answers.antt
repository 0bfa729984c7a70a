use Rattle.std.proofs.Common.{arith}
use Rattle.dj_effects.proofs.ArrayFacts.{object_there}
use Rattle.dj_member_effects.proofs.holders.holder.Goals as goal

pub made-requires : goal.made-requires
made-requires g c = object_there c.args.heap.now c.args.r (λ null. omega (arith, null)) (omega arith)
