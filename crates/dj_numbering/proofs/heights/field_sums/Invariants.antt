use Rattle.dj_numbering.proofs.FieldSums.{AreSummed}
use Rattle.dj_numbering.proofs.heights.field_sums.Given as goal

abbrev pub invariant-loop-height : goal.invariant-loop-height
invariant-loop-height l = AreSummed l.table l.height-index l.sums.items
