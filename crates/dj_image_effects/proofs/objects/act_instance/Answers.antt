use Rattle.dj_stack.specs.Frames.{top_operands}
use Rattle.dj_initialisation.specs.Store.{store}
use Rattle.dj_image_effects.specs.Acting.{machine}
use Rattle.dj_image_effects.proofs.AbsentFacts.{instance_absent, some_operand}
use Rattle.dj_image_effects.proofs.Families.{acted_on_heap}
use Rattle.dj_image_effects.proofs.Effects.{instance_is}
use Rattle.dj_image_effects.proofs.objects.act_instance.Goals as goal

pub returns-then-is_top_there : goal.returns-then-is_top_there
returns-then-is_top_there c = λ ty is.
    acted_on_heap c.args.image.now _ c.args.frames.now c.instance_of.new.frames c.args.heap.now c.args.heap.now c.instance_of.result c.flow_acted.result _ c.flow_acted.ensures
    (λ statics literals. instance_is c.args.image.now (machine c.args.frames.now (store c.args.heap.now statics literals)) (c.is_top_there.ensures.there c.if-is_top_there.true) ty c.args.class is.is)
    c.instance_of.ensures

pub instance_absent-requires-clause-some : goal.instance_absent-requires-clause-some
instance_absent-requires-clause-some c = some_operand c.args.heap.now.heap (top_operands c.args.frames.now) (c.is_top_there.ensures.absent c.if-is_top_there.false)

pub returns-else-is_top_there : goal.returns-else-is_top_there
returns-else-is_top_there c = λ ty is.
    instance_absent c.args.image.now ty c.args.class is.is c.args.frames.now c.instance_absent.new.frames c.args.heap.now (c.is_top_there.ensures.absent c.if-is_top_there.false)
    c.instance_absent.ensures.operands c.instance_absent.ensures.rest
