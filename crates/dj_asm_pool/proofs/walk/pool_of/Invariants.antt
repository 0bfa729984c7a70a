use Rattle.std.proofs.Common.{◌≡◌, ◌≤◌, ◌-◌, List, ◌++◌, length, map, drop}
use Rattle.dj_asm_source.specs.LineViews.{line_view}
use Rattle.dj_asm_source.specs.LabelReading.{sections_of}
use Rattle.dj_asm_pool.specs.trusted.Needs.{Need}
use Rattle.dj_asm_pool.specs.Walking.{AreWalked, section_needs}
use Rattle.dj_asm_pool.proofs.walk.pool_of.Given as goal

-- the sections so far are walked
abbrev pub invariant-loop-before : goal.invariant-loop-before
invariant-loop-before l = record {
  done : List Need;
  walked : AreWalked done l.pool l.first;
  left : done ++ section_needs l.before (sections_of (map line_view (drop l.before l.lines))) ≡ section_needs 0 (sections_of (map line_view l.lines));
  within : l.before ≤ length l.lines;
}

abbrev pub decreases-loop-before : goal.decreases-loop-before
decreases-loop-before l = length l.lines - l.before
