use Rattle.std.proofs.Common.{◌≡◌, ℕ, subst, take, arith}
use Rattle.dj_stack.specs.Frames.{top_operands}
use Rattle.dj_invocation.specs.Receivers.{AreObjects}
use Rattle.dj_invocation.proofs.References.{none_taken, one_more_there}
use Rattle.dj_invocation.proofs.arguments.are_there.Goals as goal

pub loop-at-init : goal.loop-at-init
loop-at-init c = none_taken c.args.heap.now.heap (top_operands c.args.frames.now)

pub loop-at-preserved : goal.loop-at-preserved
loop-at-preserved c =
    one_more_there c.args.heap.now.heap (top_operands c.args.frames.now) c.loop-at.at c.operand.result c.operand.ensures (c.has_object.ensures c.if-not-has_object.false) c.loop-at.invariant

pub returns : goal.returns
returns c = λ all.
    let all_at : c.loop-at.at ≡ c.args.count = omega arith in
    subst (λ (n : ℕ). AreObjects c.args.heap.now.heap (take n (top_operands c.args.frames.now))) all_at c.loop-at.invariant
