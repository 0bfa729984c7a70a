use Rattle.std.proofs.Common.{pos, get_or, arith}
use Rattle.dj_names.specs.declared.run.Value.{Value}
use Rattle.dj_names.specs.declared.run.Value.TheVariants as values
use Rattle.dj_invocation.proofs.EnterFacts.{count_more, slots_of_one}
use Rattle.dj_invocation.proofs.entering.slot_count.Goals as goal

pub loop-value-preserved : goal.loop-value-preserved
loop-value-preserved c =
    let d : Value = values.Int (pos 0) in
    let more = count_more c.args.values.now c.loop-value.value-index d c.loop-value-test.true in
    let two = slots_of_one (get_or c.args.values.now c.loop-value.value-index d) in
    let own = c.slots_of.ensures in
    record {
      so_far = omega (arith, more, own, c.from-count.ensures, c.loop-value.invariant.so_far);
      few = omega (arith, two, own, c.from-count.ensures, c.loop-value.invariant.few);
    }
