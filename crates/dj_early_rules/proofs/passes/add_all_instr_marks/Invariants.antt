use Rattle.dj_report.specs.Lines.{Gains}
use Rattle.dj_early_rules.specs.Marks.{MarksOf, ViolatesBelow}
use Rattle.dj_early_rules.proofs.passes.add_all_instr_marks.Given as goal

-- the marks of the instructions so far
abbrev pub invariant-loop-at : goal.invariant-loop-at
invariant-loop-at l = Gains (MarksOf l.names (ViolatesBelow l.at l.pool l.code)) l.initial.marks.items l.marks.items
