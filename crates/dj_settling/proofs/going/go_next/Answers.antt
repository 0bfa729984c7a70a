use Rattle.dj_settling.proofs.WayLaws.{went_on}
use Rattle.dj_settling.proofs.going.go_next.Goals as goal

pub returns-clause-settles : goal.returns-clause-settles
returns-clause-settles c = λ exceeded.
    went_on c.args.image.now exceeded c.args.heap.now c.args.frames.now c.advance.new.frames c.requires.some c.in_ok-advance.ensures.number c.in_ok-advance.ensures.rest c.requires.known c.requires.stand
