use Rattle.std.proofs.Common.{sym, subst, arith}
use Rattle.dj_model.specs.trusted.Instructions.{Push}
use Rattle.dj_image_effects.specs.Acting.{Acts, machine}
use Rattle.dj_initialisation.specs.Store.{store}
use Rattle.dj_image_effects.proofs.Frugal.{push_room}
use Rattle.dj_image_effects.proofs.OperandFacts.{literal_acted}
use Rattle.dj_image_effects.proofs.literals.act_literal.Goals as goal

pub returns-clause-done : goal.returns-clause-done
returns-clause-done c = λ imaged heap v reported statics literals are.
    subst (Acts imaged (Push v) (machine c.args.frames.now (store heap statics literals)) (machine c.push_literal.new.frames (store heap statics literals))) (sym c.way_acted.ensures)
    (literal_acted imaged c.args.operand v reported c.args.frames.now c.push_literal.new.frames heap statics literals c.push_literal.result c.push_literal.ensures are)

pub returns-then-not-has_room-clause-frugal : goal.returns-then-not-has_room-clause-frugal
returns-then-not-has_room-clause-frugal c = λ imaged heap v statics literals are frugal.
    let room = push_room imaged v (machine c.args.frames.now (store heap statics literals)) frugal in
    let none = c.has_room.ensures.none c.if-not-has_room.true in
    omega (arith, room, none)
