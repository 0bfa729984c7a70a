use Rattle.std.proofs.Common.{◌<◌, sym, arith}
use Rattle.dj_kind_trees.proofs.Halves.{size_low}
use Rattle.dj_kind_trees.proofs.Wrapping.{size_next}
use Rattle.dj_kind_lists.proofs.Ranging.{next_few}
use Rattle.dj_kind_lists.proofs.ranges.height_for.Goals as goal

pub loop-size-init : goal.loop-size-init
loop-size-init c = record { size_is = sym size_low; high = omega arith; few = omega arith }

pub loop-size-preserved : goal.loop-size-preserved
loop-size-preserved c =
    let high = c.loop-size.invariant.high in
    let less : c.loop-size.size < c.args.count = omega (arith, c.loop-size-test.true, c.from.ensures) in
    record {
      size_is = size_next c.loop-size.height c.loop-size.size c.loop-size.invariant.size_is;
      high = omega (arith, high);
      few = next_few c.loop-size.height c.loop-size.size c.args.count c.loop-size.invariant.size_is less (omega (arith, c.ranges.count.fits));
    }
