use Rattle.std.proofs.Common.{arith}
use Rattle.dj_member_effects.proofs.PutFacts.{puts_bits, puts_none}
use Rattle.dj_member_effects.proofs.fields.put_bits.Goals as goal

pub returns-then-at-count : goal.returns-then-at-count
returns-then-at-count c = puts_bits c.args.heap.now c.set_field.new.self c.args.r c.args.at c.args.bits c.set_field.ensures

pub returns-else-at-count : goal.returns-else-at-count
returns-else-at-count c = puts_none c.args.heap.now c.args.r c.args.at c.args.count c.args.bits c.requires (omega (arith, c.if-at-count.false))
