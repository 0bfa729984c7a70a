use Rattle.std.proofs.Common.{◌≡◌, take, reverse}
use Rattle.dj_stack.specs.Frames.{top_operands}
use Rattle.dj_invocation.proofs.operands.copy_operands.Given as goal

-- those so far
abbrev pub invariant-loop-at : goal.invariant-loop-at
invariant-loop-at l = l.copied.items ≡ take l.at (reverse (take l.count (top_operands l.frames)))
