use Rattle.std.proofs.Common.{◌≡◌, ◌+◌, ◌≤◌, ◌-◌, length, map, drop}
use Rattle.std.specs.List.{prefix_len}
use Rattle.dj_asm_source.specs.LineViews.{line_view}
use Rattle.dj_asm_source.specs.LabelReading.{is_inside, section_size}
use Rattle.dj_asm_source.proofs.labelling.section_size.Given as goal

-- the lines so far, and those of the section that are left
abbrev pub invariant-loop-size : goal.invariant-loop-size
invariant-loop-size l = record {
  size : l.size + prefix_len is_inside (map line_view (drop l.size l.lines)) ≡ section_size (map line_view l.lines);
  some : 1 ≤ l.size;
  within : l.size ≤ length l.lines;
}

abbrev pub decreases-loop-size : goal.decreases-loop-size
decreases-loop-size l = length l.lines - l.size
