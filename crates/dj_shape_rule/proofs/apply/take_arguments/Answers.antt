use Rattle.dj_shape_rule.proofs.Works.{receiver_taken}
use Rattle.dj_shape_rule.proofs.apply.take_arguments.Goals as goal

pub returns-else-is_static-clause-taken : goal.returns-else-is_static-clause-taken
returns-else-is_static-clause-taken c =
    rw c.if-is_static.false
    (receiver_taken c.take.result c.args.parameters.now c.args.state.now.kinds.stack c.take_back.new.self.kinds.stack c.take.new.self.kinds.stack
    c.if-take_back.ensures.taken c.take.ensures.taken)
