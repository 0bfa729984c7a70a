use Rattle.std.proofs.Common.{◌≡◌, map, drop}
use Rattle.dj_asm_source.specs.LineViews.{line_view}
use Rattle.dj_asm.specs.Filing.{stack_at, first_reported}
use Rattle.dj_asm.proofs.bodies.stack_of.Given as goal

abbrev pub invariant-loop-line : goal.invariant-loop-line
invariant-loop-line l = first_reported stack_at (map line_view (drop l.line-index l.lines)) ≡ first_reported stack_at (map line_view l.lines)
