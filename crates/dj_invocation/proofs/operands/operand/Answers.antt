use Rattle.std.proofs.Common.{arith, ◌-◌}
use Rattle.dj_effects.proofs.TopFacts.{no_operands}
use Rattle.dj_invocation.proofs.OperandFacts.{some_operand, from_top}
use Rattle.dj_invocation.proofs.operands.operand.Goals as goal

pub unreachable-requires : goal.unreachable-requires
unreachable-requires c = let none = no_operands c.args.frames.now (omega arith) in omega (arith, none)

pub operand_of-requires : goal.operand_of-requires
operand_of-requires c =
    some_operand c.args.frames.now (c.depth.result - 1) (c.operand_count-last.result - 1 - c.args.at) c.args.at (omega arith) (omega arith)

pub returns : goal.returns
returns c =
    from_top c.args.frames.now (c.depth.result - 1) (c.operand_count-last.result - 1 - c.args.at) c.args.at c.operand_of.result (omega arith) (omega arith) c.operand_of.ensures
