use Rattle.dj_settling.proofs.WayLaws.{gave}
use Rattle.dj_settling.proofs.native.give.Goals as goal

pub returns : goal.returns
returns c = λ exceeded.
    gave c.args.image.now exceeded c.args.heap.now c.args.frames.now c.push_value.new.self c.advance.new.frames c.args.value c.requires.some c.push_value.ensures.rest c.push_value.ensures.operands
    c.in_ok-advance.ensures.number c.in_ok-advance.ensures.rest c.requires.known c.requires.stand
