use Rattle.dj_report.specs.Lines.{Adds}
use Rattle.dj_early_rules.specs.Kept.{IsMarkedLine}
use Rattle.dj_early_rules.proofs.hierarchy.add_marked_lines.Given as goal

-- the lines of the files so far
abbrev pub invariant-loop-place : goal.invariant-loop-place
invariant-loop-place l = Adds (IsMarkedLine l.place l.owners l.marks) l.initial.found.items l.found.items
