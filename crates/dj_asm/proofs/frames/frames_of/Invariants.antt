use Rattle.std.proofs.Common.{◌≡◌, ◌≤◌, ◌++◌, drop, map}
use Rattle.dj_asm_source.specs.LineViews.{line_view}
use Rattle.dj_asm_pool.specs.Pooling.{found_index}
use Rattle.dj_asm.specs.trusted.Codes.{frames_in}
use Rattle.dj_asm.specs.trusted.Files.{places_of}
use Rattle.dj_asm.proofs.frames.frames_of.Given as goal

-- the frames so far, and those of the lines that are left
abbrev pub invariant-loop-line : goal.invariant-loop-line
invariant-loop-line l = record {
  frames : l.frames ++ frames_in (places_of (found_index l.pool) l.labels) l.number (map line_view (drop l.line-index l.lines)) ≡ frames_in (places_of (found_index l.pool) l.labels) 0 (map line_view l.lines);
  number : l.number ≤ l.line-index;
}
