use Rattle.dj_stack.specs.Frames.{top_operands}
use Rattle.dj_invocation.proofs.OperandFacts.{copied_one}
use Rattle.dj_invocation.proofs.operands.copy_operands.Goals as goal
use Rattle.std.proofs.Common.{◌∙◌}

pub loop-at-preserved : goal.loop-at-preserved
loop-at-preserved c =
    c.in_ok-push.ensures.items
    ∙ copied_one (top_operands c.args.frames.now) c.loop-at.copied.items c.args.count c.loop-at.at c.operand.result c.requires c.loop-at-test.true c.operand.ensures c.loop-at.invariant
