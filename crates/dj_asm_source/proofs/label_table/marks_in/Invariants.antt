use Rattle.std.proofs.Common.{◌≡◌, ◌≤◌, ◌++◌, drop, map}
use Rattle.dj_asm_source.specs.LabelReading.{marks_from, marks_of}
use Rattle.dj_asm_source.specs.LabelViews.{mark_row}
use Rattle.dj_asm_source.specs.LineViews.{line_view}
use Rattle.dj_asm_source.proofs.label_table.marks_in.Given as goal

-- the marks so far, and those of the lines that are left
abbrev pub invariant-loop-place : goal.invariant-loop-place
invariant-loop-place l = record {
  marks : map (mark_row l.lines) l.marks.items ++ marks_from l.place l.number (map line_view (drop l.place l.lines)) ≡ marks_of (map line_view l.lines);
  number : l.number ≤ l.place;
}
