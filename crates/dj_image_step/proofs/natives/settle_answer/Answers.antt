use Rattle.dj_image_step.proofs.Answered.{settles_then}
use Rattle.dj_image_step.proofs.natives.settle_answer.Goals as goal

pub returns-clause-settles : goal.returns-clause-settles
returns-clause-settles c =
    let awaited = c.is_awaited.ensures c.if-not-is_awaited.false in
    settles_then c.args.image.now c.args.exceeded c.args.id c.args.args.now c.args.answer c.args.heap.now c.settle_native.new.heap c.args.frames.now c.settle_native.new.frames c.settle_native.result
    awaited.flow awaited.reported (c.settle_native.ensures.settles awaited.flow awaited.reported)
