use Rattle.std.proofs.Common.{[], take}
use Rattle.dj_report.specs.Lines.{Gains}
use Rattle.dj_file_rules.specs.trusted.Violations.{IsNative}
use Rattle.dj_report.proofs.Adding.{IsAmong}
use Rattle.dj_file_rules.proofs.FileLines.{IsOwnPair}
use Rattle.dj_file_rules.proofs.members.add_native_lines.Given as goal

-- the pairs of the methods so far
abbrev pub invariant-loop-method : goal.invariant-loop-method
invariant-loop-method l = Gains (IsAmong (IsOwnPair (λ _ m. IsNative m) l.view.pool) (take l.method-index l.method-items)) [] l.pairs.items
