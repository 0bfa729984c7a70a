use Rattle.std.proofs.Common.{take}
use Rattle.dj_report.specs.Lines.{Adds, IsLineAmong}
use Rattle.dj_early_rules.specs.Marks.{IsMarkLine}
use Rattle.dj_early_rules.proofs.lines.add_each_line.Given as goal

-- the lines of the marks so far
abbrev pub invariant-loop-mark : goal.invariant-loop-mark
invariant-loop-mark l = Adds (IsLineAmong (IsMarkLine l.path l.pool) (take l.mark-index l.marks)) l.initial.found.items l.found.items
