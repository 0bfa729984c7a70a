use Rattle.dj_numbering.specs.Numbered.{AreHeights}
use Rattle.dj_numbering.proofs.heights.heights_of.Given as goal

abbrev pub invariant-loop-class : goal.invariant-loop-class
invariant-loop-class l = AreHeights l.table l.heights.items
