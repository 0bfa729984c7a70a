use Rattle.std.proofs.Common.{◌≤◌, length, take}
use Rattle.dj_model.specs.trusted.Program.{Program}
use Rattle.dj_report.specs.Lines.{Adds, IsLineAmong}
use Rattle.dj_rules.specs.Late.{HasLent}
use Rattle.dj_rules.proofs.FileLaws.{IsOwnFileLine, IsOwnLateLine}
use Rattle.dj_rules.proofs.KeptLaws.{AreFirstKept}
use Rattle.dj_rules.proofs.files.judge_all.Given as goal

-- the lines of the files so far, and what is kept of them
abbrev pub invariant-loop-file : goal.invariant-loop-file
invariant-loop-file l = record {
  within : l.file-index ≤ length l.files;
  early : Adds (IsLineAmong IsOwnFileLine (take l.file-index l.files)) l.initial.found.early.items l.found.early.items;
  late : (program : Program) → HasLent l.lent program → Adds (IsLineAmong (IsOwnLateLine program) (take l.file-index l.files)) l.initial.found.late.items l.found.late.items;
  kept : AreFirstKept l.file-index l.files l.kept;
}
