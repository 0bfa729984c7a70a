use Rattle.dj_loader_tests.proofs.Operands.{operand_in}
use Rattle.dj_loader_tests.proofs.members.operand_of.Goals as goal

pub returns-in-Some : goal.returns-in-Some
returns-in-Some c = operand_in c.args.image.now c.args.method.number c.args.number c.operand.result c.operand.ensures
