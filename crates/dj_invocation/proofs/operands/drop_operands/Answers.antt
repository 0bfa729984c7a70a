use Rattle.std.proofs.Common.{refl, sym, ◌∙◌}
use Rattle.dj_stack.specs.Frames.{top_operands}
use Rattle.dj_invocation.proofs.OperandFacts.{dropped_one, same_frames, same_later}
use Rattle.dj_invocation.proofs.operands.drop_operands.Goals as goal

pub loop-at-init : goal.loop-at-init
loop-at-init c = record { operands = refl; rest = same_frames c.args.frames.now }

pub loop-at-preserved : goal.loop-at-preserved
loop-at-preserved c = record {
  operands = dropped_one (top_operands c.args.frames.now) (top_operands c.pop_value.new.self) c.loop-at.at c.pop_value.result
      (sym c.loop-at.invariant.operands ∙ c.pop_value.ensures.operands);
  rest = same_later c.args.frames.now c.loop-at.frames c.pop_value.new.self c.loop-at.invariant.rest c.pop_value.ensures.rest;
}
