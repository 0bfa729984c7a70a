use Rattle.std.proofs.Common.{◌≡◌, ap, sym, ◌∙◌, arith, min}
use Rattle.std.specs.Prelude.{length, pos, ◌-ℤ◌}
use Rattle.dj_natives.specs.Seen.{units_at}
use Rattle.dj_natives.proofs.Units.{difference_apart, difference_alike, difference_past}
use Rattle.dj_natives.proofs.texts.difference.Goals as goal

pub loop-at-preserved : goal.loop-at-preserved
loop-at-preserved c = c.loop-at.invariant ∙ difference_alike (units_at c.args.heap.now c.args.a) (units_at c.args.heap.now c.args.b) c.loop-at.at c.unit_of-x.result c.unit_of-y.result
    c.unit_of-x.ensures c.unit_of-y.ensures c.if-x-y.false
