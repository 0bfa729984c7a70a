use Rattle.std.proofs.Common.{get_or}
use Rattle.dj_resolution.specs.Numbers.{lists_of}
use Rattle.dj_resolution.specs.Chained.{row_at}
use Rattle.dj_resolution.proofs.Chained.{learnt_none}
use Rattle.dj_resolution.proofs.Finding.{has_at}
use Rattle.dj_resolution.proofs.chains.Chains.of.Goals as goal

pub loop-class-init : goal.loop-class-init
loop-class-init c =
    learnt_none c.args.table.now (row_at (lists_of c.args.rows.now)) (lists_of c.in_ok-chains.chains.lists.items) c.in_ok-chains.chains.places.items c.class_count.result c.class_count.ensures.count c.in_ok-chains.ensures.places

pub learn-requires-clause-there : goal.learn-requires-clause-there
learn-requires-clause-there c = c.requires.order (get_or c.args.order.now c.loop-class.class-index 0) (has_at c.args.order.now c.loop-class.class-index c.loop-class-test.true)
