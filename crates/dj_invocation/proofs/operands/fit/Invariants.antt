use Rattle.std.proofs.Common.{◌≡◌, drop, reverse}
use Rattle.dj_stack.specs.Frames.{top_operands}
use Rattle.dj_invocation.specs.Operands.{fit}
use Rattle.dj_invocation.proofs.operands.fit.Given as goal

-- what is left of the kinds and the operands decides the rest
abbrev pub invariant-loop-at : goal.invariant-loop-at
invariant-loop-at l = fit (drop l.at (reverse l.kinds)) (drop l.at (top_operands l.frames)) ≡ fit (reverse l.kinds) (top_operands l.frames)
