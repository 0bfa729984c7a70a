use Rattle.std.proofs.Common.{map}
use Rattle.dj_asm_source.specs.LineViews.{line_view}
use Rattle.dj_asm.specs.Judging.{NoneBelow, alone}
use Rattle.dj_asm.proofs.proper.first_alone.Given as goal

-- none so far
abbrev pub invariant-loop-place : goal.invariant-loop-place
invariant-loop-place l = NoneBelow (alone l.pool (map line_view l.lines)) l.place
