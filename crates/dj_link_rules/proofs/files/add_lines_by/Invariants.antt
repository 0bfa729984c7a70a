use Rattle.std.proofs.Common.{take}
use Rattle.dj_report.specs.Lines.{Adds, IsLineAmong}
use Rattle.dj_link_rules.proofs.FileLaws.{IsOwnLinkLine}
use Rattle.dj_link_rules.proofs.files.add_lines_by.Given as goal

-- the lines of the files so far
abbrev pub invariant-loop-file : goal.invariant-loop-file
invariant-loop-file l = Adds (IsLineAmong (IsOwnLinkLine l.linker.program) (take l.file-index l.files)) l.initial.found.items l.found.items
