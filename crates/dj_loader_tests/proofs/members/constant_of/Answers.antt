use Rattle.dj_loader_tests.proofs.Operands.{constant_in}
use Rattle.dj_loader_tests.proofs.members.constant_of.Goals as goal

pub returns : goal.returns
returns c = constant_in c.args.image.now c.args.field.number _ c.constant.ensures
