use Rattle.std.proofs.Common.{take}
use Rattle.dj_stack.specs.Frames.{top_operands}
use Rattle.dj_invocation.specs.Receivers.{AreObjects}
use Rattle.dj_invocation.proofs.arguments.are_there.Given as goal

-- those so far
abbrev pub invariant-loop-at : goal.invariant-loop-at
invariant-loop-at l = AreObjects l.heap.heap (take l.at (top_operands l.frames))
