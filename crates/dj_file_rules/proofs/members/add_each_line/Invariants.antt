use Rattle.std.proofs.Common.{take}
use Rattle.dj_report.specs.Lines.{Adds, IsLineAmong}
use Rattle.dj_file_rules.specs.Lines.{IsPairLine}
use Rattle.dj_file_rules.proofs.members.add_each_line.Given as goal

-- the lines of the pairs so far
abbrev pub invariant-loop-pair : goal.invariant-loop-pair
invariant-loop-pair l = Adds (IsLineAmong (IsPairLine l.lines.path.now l.lines.rule l.lines.pool.now) (take l.pair-index l.pairs)) l.initial.found.items l.found.items
