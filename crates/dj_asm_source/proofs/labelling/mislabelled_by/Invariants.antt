use Rattle.std.proofs.Common.{◌≡◌, map, drop}
use Rattle.dj_asm_source.specs.LineViews.{line_view}
use Rattle.dj_asm_source.specs.LabelReading.{mislabelled_from}
use Rattle.dj_asm_source.proofs.labelling.mislabelled_by.Given as goal

-- the lines that are left decide
abbrev pub invariant-loop-place : goal.invariant-loop-place
invariant-loop-place l = mislabelled_from l.table l.count l.place (map line_view (drop l.place l.lines)) ≡ mislabelled_from l.table l.count 0 (map line_view l.lines)
