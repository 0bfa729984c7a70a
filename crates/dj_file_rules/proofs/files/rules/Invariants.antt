use Rattle.std.proofs.Common.{[], take}
use Rattle.dj_report.specs.Lines.{Adds, IsLineAmong}
use Rattle.dj_file_rules.proofs.FileLines.{IsOwnFileLine}
use Rattle.dj_file_rules.proofs.files.rules.Given as goal

-- the lines of the files so far
abbrev pub invariant-loop-file : goal.invariant-loop-file
invariant-loop-file l = Adds (IsLineAmong IsOwnFileLine (take l.file-index l.files)) [] l.found.items
