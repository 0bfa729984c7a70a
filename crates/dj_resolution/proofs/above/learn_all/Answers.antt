use Rattle.std.proofs.Common.{length, get_or, refl}
use Rattle.dj_resolution.specs.Numbers.{lists_of}
use Rattle.dj_resolution.proofs.Bits.{have_none}
use Rattle.dj_resolution.proofs.Knowing.{known_none}
use Rattle.dj_resolution.proofs.Marks.{found_below}
use Rattle.dj_resolution.proofs.above.learn_all.Goals as goal

pub loop-class-init : goal.loop-class-init
loop-class-init c = record {
  known = known_none c.args.table.now (lists_of c.in_ok-known.known.lists.items) c.in_ok-known.known.marks.items c.class_count.result c.class_count.ensures.count c.in_ok-known.ensures.lists c.in_ok-known.ensures.marks;
  bits = have_none (lists_of c.in_ok-known.known.lists.items) (lists_of c.in_ok-known.known.rows.items) c.in_ok-known.known.marks.items c.class_count.result c.in_ok-known.ensures.rows c.in_ok-known.ensures.marks;
}

pub learn-requires-clause-there : goal.learn-requires-clause-there
learn-requires-clause-there c =
    found_below (length c.args.table.now) c.in_ok-order.order.items c.deref-class-items.result.now c.loop-class.class-index (get_or c.deref-class-items.result.now c.loop-class.class-index 0)
    c.in_ok-order.ensures c.deref-class-items.ensures.value c.loop-class-test.true refl
