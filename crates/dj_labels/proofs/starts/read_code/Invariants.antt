use Rattle.std.proofs.Common.{length, ◌-◌}
use Rattle.dj_labels.proofs.Steps.{ReadUpTo}
use Rattle.dj_labels.proofs.starts.read_code.Given as goal

abbrev pub invariant-loop-at : goal.invariant-loop-at
invariant-loop-at l = ReadUpTo l.code l.starts.items l.instrs.items l.at

abbrev pub decreases-loop-at : goal.decreases-loop-at
decreases-loop-at l = length l.code - l.at
