use Rattle.std.proofs.Common.{drop}
use Rattle.dj_stack.specs.Frames.{top_operands}
use Rattle.dj_invocation.proofs.OperandFacts.{frames_left}
use Rattle.dj_invocation.proofs.invoking.give_up.Goals as goal

pub returns-clause-frames : goal.returns-clause-frames
returns-clause-frames c =
    frames_left c.args.frames.now c.drop_operands.new.frames (drop c.args.taken (top_operands c.args.frames.now)) c.drop_operands.ensures.rest c.drop_operands.ensures.operands
