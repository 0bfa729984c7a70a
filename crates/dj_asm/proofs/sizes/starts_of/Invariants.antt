use Rattle.std.proofs.Common.{map}
use Rattle.dj_asm_source.specs.LineViews.{line_view}
use Rattle.dj_asm.specs.Judging.{AreSoFar}
use Rattle.dj_asm.proofs.sizes.starts_of.Given as goal

-- the addresses so far, and the next
abbrev pub invariant-loop-place : goal.invariant-loop-place
invariant-loop-place l = AreSoFar (map line_view l.lines) l.place l.starts.items l.at
