use Rattle.dj_settling.proofs.StopLaws.{class_is, made_is}
use Rattle.dj_settling.proofs.stopping.make_stop.Goals as goal

pub make_and_throw-requires-clause-class : goal.make_and_throw-requires-clause-class
make_and_throw-requires-clause-class c = class_is c.args.image.now c.args.class c.requires.class

pub returns-clause-is : goal.returns-clause-is
returns-clause-is c =
    made_is c.args.image.now c.args.exceeded c.args.heap.now c.make_and_throw.new.heap c.args.class c.args.stop.now c.make_and_throw.new.made c.args.frames.now c.make_and_throw.new.frames
    c.make_and_throw.result c.are_settled.ensures c.requires.class c.requires.known c.requires.none c.requires.is c.make_and_throw.ensures.settles c.make_and_throw.ensures.made
