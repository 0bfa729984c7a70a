use Rattle.std.proofs.Common.{ap, sym, ◌∙◌, arith, Some}
use Rattle.dj_stack.specs.Frames.{top_operands}
use Rattle.dj_invocation.proofs.OperandFacts.{receiver_at, no_receiver, not_reference}
use Rattle.dj_invocation.proofs.operands.receiver.Goals as goal

pub returns-then-operand_count-above-clause-receiver : goal.returns-then-operand_count-above-clause-receiver
returns-then-operand_count-above-clause-receiver c = sym (no_receiver (top_operands c.args.frames.now) c.args.above (omega arith))

pub returns-in-Ref-clause-receiver : goal.returns-in-Ref-clause-receiver
returns-in-Ref-clause-receiver c = sym (receiver_at (top_operands c.args.frames.now) c.args.above _ (c.operand.ensures ∙ ap Some c.in-Ref.is))

pub returns-in_default-clause-receiver : goal.returns-in_default-clause-receiver
returns-in_default-clause-receiver c = sym (not_reference (top_operands c.args.frames.now) c.args.above c.operand.result c.operand.ensures c.in_default.not-Ref)
