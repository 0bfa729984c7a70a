use Rattle.dj_initialisation.specs.Store.{store}
use Rattle.dj_image_effects.specs.Acting.{machine}
use Rattle.dj_image_effects.proofs.AbsentFacts.{cast_absent}
use Rattle.dj_image_effects.proofs.Families.{acted_on_heap}
use Rattle.dj_image_effects.proofs.Effects.{cast_is}
use Rattle.dj_image_effects.proofs.objects.act_cast.Goals as goal

pub returns-then-is_top_there : goal.returns-then-is_top_there
returns-then-is_top_there c = λ ty is.
    acted_on_heap c.args.image.now _ c.args.frames.now c.check_cast.new.frames c.args.heap.now c.args.heap.now c.check_cast.result c.flow_acted.result _ c.flow_acted.ensures
    (λ statics literals. cast_is c.args.image.now (machine c.args.frames.now (store c.args.heap.now statics literals)) (c.is_top_there.ensures.there c.if-is_top_there.true) ty c.args.class is.is)
    c.check_cast.ensures

pub returns-else-is_top_there : goal.returns-else-is_top_there
returns-else-is_top_there c = λ ty is.
    cast_absent c.args.image.now ty c.args.class is.is c.args.frames.now c.args.heap.now c.cast_absent.result (c.is_top_there.ensures.absent c.if-is_top_there.false) c.cast_absent.ensures
