use Rattle.dj_numbering.specs.Numbered.{AreHeights}
use Rattle.dj_numbering.proofs.heights.learn_all.Given as goal

abbrev pub invariant-loop-turn : goal.invariant-loop-turn
invariant-loop-turn l = AreHeights l.table l.heights
