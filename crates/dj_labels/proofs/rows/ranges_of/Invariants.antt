use Rattle.std.proofs.Common.{take}
use Rattle.dj_labels.specs.Passes.{AreRangesOf}
use Rattle.dj_labels.proofs.rows.ranges_of.Given as goal

abbrev pub invariant-loop-i : goal.invariant-loop-i
invariant-loop-i l = AreRangesOf l.table.starts.items l.size (take l.i l.rows) l.ranges
