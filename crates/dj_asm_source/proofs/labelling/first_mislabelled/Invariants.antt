use Rattle.std.proofs.Common.{◌≡◌, ◌≤◌, ◌-◌, length, map, drop}
use Rattle.dj_asm_source.specs.LineViews.{line_view}
use Rattle.dj_asm_source.specs.LabelReading.{sections_of, mislabelled_after, first_mislabelled}
use Rattle.dj_asm_source.proofs.labelling.first_mislabelled.Given as goal

-- the sections that are left decide
abbrev pub invariant-loop-before : goal.invariant-loop-before
invariant-loop-before l = record {
  left : mislabelled_after l.before (sections_of (map line_view (drop l.before l.lines))) ≡ first_mislabelled (map line_view l.lines);
  within : l.before ≤ length l.lines;
}

abbrev pub decreases-loop-before : goal.decreases-loop-before
decreases-loop-before l = length l.lines - l.before
