use Rattle.std.proofs.Common.{arith}
use Rattle.dj_initialisation.specs.Store.{store}
use Rattle.dj_image_effects.specs.Acting.{machine}
use Rattle.dj_image_effects.proofs.Frugal.{action_room}
use Rattle.dj_image_effects.proofs.plain.act_plain.Goals as goal

pub returns-then-not-has_room-clause-frugal : goal.returns-then-not-has_room-clause-frugal
returns-then-not-has_room-clause-frugal c = λ statics literals are frugal.
    let room = action_room c.args.image.now c.args.action (machine c.args.frames.now (store c.args.heap.now statics literals)) c.have_room.ensures frugal in
    let none = c.has_room.ensures.none c.if-not-has_room.true in
    let more = c.growth.ensures in
    omega (arith, room, none, more)
