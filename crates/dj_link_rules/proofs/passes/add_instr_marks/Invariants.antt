use Rattle.dj_report.specs.Lines.{Gains}
use Rattle.dj_early_rules.specs.Marks.{MarksOf}
use Rattle.dj_link_rules.specs.Known.{KnownBelow}
use Rattle.dj_link_rules.proofs.passes.add_instr_marks.Given as goal

-- the marks of the instructions so far
abbrev pub invariant-loop-at : goal.invariant-loop-at
invariant-loop-at l = Gains (MarksOf l.names (KnownBelow l.at l.known l.pool l.code)) l.initial.marks.items l.marks.items
