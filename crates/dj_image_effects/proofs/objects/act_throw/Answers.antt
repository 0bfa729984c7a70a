use Rattle.dj_image_effects.proofs.AbsentFacts.{throw_absent}
use Rattle.dj_image_effects.proofs.Families.{thrown_on_heap}
use Rattle.dj_image_effects.proofs.objects.act_throw.Goals as goal

pub returns-then-is_top_there : goal.returns-then-is_top_there
returns-then-is_top_there c =
    thrown_on_heap c.args.image.now c.args.frames.now c.throw_top.new.frames c.args.heap.now c.args.throwable c.throw_top.result c.thrown_acted.result c.thrown_acted.ensures
    (c.is_top_there.ensures.there c.if-is_top_there.true) c.requires.throwable.is c.throw_top.ensures.thrown c.throw_top.ensures.rest

pub returns-else-is_top_there : goal.returns-else-is_top_there
returns-else-is_top_there c = throw_absent c.args.image.now c.args.frames.now c.args.heap.now (c.is_top_there.ensures.absent c.if-is_top_there.false)
