use Rattle.std.proofs.Common.{◌≡◌, map, drop}
use Rattle.dj_asm_source.specs.LineViews.{line_view}
use Rattle.dj_asm_pool.specs.Pooling.{found_index}
use Rattle.dj_asm.specs.Filing.{no_heading, heading_from}
use Rattle.dj_asm.proofs.heading.heading_of.Given as goal

abbrev pub invariant-loop-line : goal.invariant-loop-line
invariant-loop-line l =
    heading_from (found_index l.pool) l.heading (map line_view (drop l.line-index l.lines)) ≡ heading_from (found_index l.pool) no_heading (map line_view l.lines)
