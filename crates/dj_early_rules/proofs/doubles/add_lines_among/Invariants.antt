use Rattle.std.proofs.Common.{take}
use Rattle.dj_report.specs.Lines.{Adds, IsLineAmong}
use Rattle.dj_early_rules.specs.Doubles.{texts_in, IsLineAmongNames}
use Rattle.dj_early_rules.proofs.doubles.add_lines_among.Given as goal

-- the lines of the files so far
abbrev pub invariant-loop-file : goal.invariant-loop-file
invariant-loop-file l = Adds (IsLineAmong (IsLineAmongNames (texts_in l.names)) (take l.file-index l.files)) l.initial.found.items l.found.items
