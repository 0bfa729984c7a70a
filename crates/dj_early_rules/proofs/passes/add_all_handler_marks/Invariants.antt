use Rattle.std.proofs.Common.{take}
use Rattle.dj_report.specs.Lines.{Gains}
use Rattle.dj_early_rules.specs.Marks.{IsAmongRanges}
use Rattle.dj_early_rules.proofs.passes.add_all_handler_marks.Given as goal

-- the marks of the handlers so far
abbrev pub invariant-loop-range : goal.invariant-loop-range
invariant-loop-range l = Gains (IsAmongRanges l.names l.pool (take l.range-index l.ranges)) l.initial.marks.items l.marks.items
