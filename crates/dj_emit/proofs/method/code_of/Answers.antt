use Rattle.dj_emit.proofs.MethodFacts.{lent, lends_code}
use Rattle.dj_emit.proofs.method.code_of.Goals as goal

pub returns : goal.returns
returns c = lends_code c.args.image.now c.args.method.number _ c.requires.code c.in-Code.ensures

pub unreachable-requires : goal.unreachable-requires
unreachable-requires c = lent c.args.image.now c.args.method.number _ c.requires.code c.in-Native.ensures

pub unreachable-requires-in-Abstract : goal.unreachable-requires-in-Abstract
unreachable-requires-in-Abstract c = lent c.args.image.now c.args.method.number _ c.requires.code c.in-Abstract.ensures
