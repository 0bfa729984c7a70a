use Rattle.std.proofs.Common.{◌-◌, length, map}
use Rattle.dj_asm_source.specs.LineViews.{line_view}
use Rattle.dj_asm.specs.Judging.{AreLeft}
use Rattle.dj_asm.proofs.judge.first_in_sections.Given as goal

-- none so far, and the sections that are left decide of the others
abbrev pub invariant-loop-before : goal.invariant-loop-before
invariant-loop-before l = AreLeft (map line_view l.lines) l.before

abbrev pub decreases-loop-before : goal.decreases-loop-before
decreases-loop-before l = length l.lines - l.before
