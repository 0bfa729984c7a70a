use Rattle.std.proofs.Common.{[], take}
use Rattle.dj_report.specs.Lines.{Gains}
use Rattle.dj_file_rules.specs.trusted.Violations.{IsFinalizer}
use Rattle.dj_report.proofs.Adding.{IsAmong}
use Rattle.dj_file_rules.proofs.FileLines.{IsOwnPair}
use Rattle.dj_file_rules.proofs.members.add_finalizer_lines.Given as goal

-- the pairs of the methods so far
abbrev pub invariant-loop-method : goal.invariant-loop-method
invariant-loop-method l = Gains (IsAmong (IsOwnPair IsFinalizer l.view.pool) (take l.method-index l.method-items)) [] l.pairs.items
