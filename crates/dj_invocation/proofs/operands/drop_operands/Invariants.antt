use Rattle.std.proofs.Common.{◌≡◌, drop}
use Rattle.dj_stack.specs.Frames.{SameButOperands, top_operands}
use Rattle.dj_invocation.proofs.operands.drop_operands.Given as goal

-- this many are taken so far
abbrev pub invariant-loop-at : goal.invariant-loop-at
invariant-loop-at l = record {
  operands : top_operands l.frames ≡ drop l.at (top_operands l.initial.frames);
  rest : SameButOperands l.initial.frames l.frames;
}
