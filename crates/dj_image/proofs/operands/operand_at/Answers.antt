use Rattle.std.proofs.Common.{sym}
use Rattle.dj_image.specs.Owned.{constant_of_owned}
use Rattle.dj_image.proofs.Links.{linked_index}
use Rattle.dj_image.proofs.operands.operand_at.Goals as goal

pub constant_operand-requires-clause-linked : goal.constant_operand-requires-clause-linked
constant_operand-requires-clause-linked c =
    linked_index c.args.pool.now c.args.index (constant_of_owned c.in-Some.entry.now) c.requires.valid (sym c.in-Some.ensures)
