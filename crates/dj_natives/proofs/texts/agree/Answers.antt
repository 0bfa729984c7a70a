use Rattle.std.proofs.Common.{sym, ◌∙◌}
use Rattle.dj_natives.specs.Seen.{units_at}
use Rattle.dj_natives.proofs.Units.{step_apart, step_alike}
use Rattle.dj_natives.proofs.texts.agree.Goals as goal

pub returns-then-unit_of : goal.returns-then-unit_of
returns-then-unit_of c = sym (c.loop-at.invariant ∙ step_apart (units_at c.args.heap.now c.args.a) (units_at c.args.heap.now c.args.b) c.args.count c.loop-at.at c.unit_of.result c.unit_of-in-loop-at.result
    c.loop-at-test.true c.unit_of.ensures c.unit_of-in-loop-at.ensures c.if-unit_of.true)

pub loop-at-preserved : goal.loop-at-preserved
loop-at-preserved c = c.loop-at.invariant ∙ step_alike (units_at c.args.heap.now c.args.a) (units_at c.args.heap.now c.args.b) c.args.count c.loop-at.at c.unit_of.result c.unit_of-in-loop-at.result
    c.loop-at-test.true c.unit_of.ensures c.unit_of-in-loop-at.ensures c.if-unit_of.false
