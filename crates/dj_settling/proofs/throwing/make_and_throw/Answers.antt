use Rattle.dj_settling.proofs.ThrowLaws.{made_known}
use Rattle.dj_settling.proofs.throwing.make_and_throw.Goals as goal

pub throw-requires-clause-known : goal.throw-requires-clause-known
throw-requires-clause-known c =
    made_known c.args.image.now c.args.heap.now c.instance.new.self c.args.class c.args.fields c.in-Ok.exception c.are_settled.ensures c.in-Ok.ensures.made c.requires.class c.requires.known
