use Rattle.std.proofs.Common.{take}
use Rattle.dj_report.specs.Lines.{Gains}
use Rattle.dj_link_rules.specs.Marks.{AreRangeMarks}
use Rattle.dj_link_rules.proofs.passes.add_handler_marks.Given as goal

-- the marks of the handlers so far
abbrev pub invariant-loop-range : goal.invariant-loop-range
invariant-loop-range l = Gains (AreRangeMarks l.names l.known l.pool (take l.range-index l.ranges)) l.initial.marks.items l.marks.items
