use Rattle.std.proofs.Common.{None}
use Rattle.dj_image.proofs.Making.{reported_step, reported_all}
use Rattle.dj_image.proofs.tables.constant_table.Goals as goal

pub loop-value-init : goal.loop-value-init
loop-value-init c = λ texts held. c.new-kept.ensures.items

pub loop-value-preserved : goal.loop-value-preserved
loop-value-preserved c = λ texts held.
    reported_step texts c.args.pool.now c.args.values.now c.loop-value.value-index None c.loop-value.kept.items c.push.new.self.items c.in_ok-value_operand.field-0
    c.loop-value-test.true (c.loop-value.invariant texts held) (c.in_ok-value_operand.ensures texts held) c.in_ok-push.ensures.items

pub returns : goal.returns
returns c = λ texts held. reported_all texts c.args.pool.now c.args.values.now c.loop-value.value-index c.loop-value.kept.items c.loop-value-test.false (c.loop-value.invariant texts held)
