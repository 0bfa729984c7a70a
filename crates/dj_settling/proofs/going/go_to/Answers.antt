use Rattle.std.proofs.Common.{arith}
use Rattle.dj_settling.proofs.WayLaws.{went_to}
use Rattle.dj_settling.proofs.going.go_to.Goals as goal

pub returns-clause-settles : goal.returns-clause-settles
returns-clause-settles c = λ exceeded.
    went_to c.args.image.now exceeded c.args.heap.now c.args.frames.now c.set_number.new.self c.args.number c.requires.some
    (omega (arith, c.set_number.ensures.number, c.in-Ok.ensures)) c.set_number.ensures.rest c.requires.known c.requires.stand
