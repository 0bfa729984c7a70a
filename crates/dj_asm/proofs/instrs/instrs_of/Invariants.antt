use Rattle.std.proofs.Common.{map, take}
use Rattle.dj_asm_source.specs.LineViews.{line_view}
use Rattle.dj_asm_pool.specs.Pooling.{found_index}
use Rattle.dj_asm.specs.trusted.Codes.{AreInstrsOf}
use Rattle.dj_asm.specs.trusted.Files.{places_of}
use Rattle.dj_asm.proofs.instrs.instrs_of.Given as goal

abbrev pub invariant-loop-line : goal.invariant-loop-line
invariant-loop-line l = AreInstrsOf (places_of (found_index l.pool) l.labels) (map line_view (take l.line-index l.lines)) l.instrs
