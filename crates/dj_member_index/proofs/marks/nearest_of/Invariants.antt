use Rattle.std.proofs.Common.{◌≡◌, length}
use Rattle.dj_member_index.specs.Spans.{AreNearest}
use Rattle.dj_member_index.proofs.marks.nearest_of.Given as goal

-- those of the marks so far
abbrev pub invariant-loop-mark : goal.invariant-loop-mark
invariant-loop-mark l = (length l.nearest.items ≡ l.mark-index) × AreNearest l.spans l.marks l.nearest.items
