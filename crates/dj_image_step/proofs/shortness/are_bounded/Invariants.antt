use Rattle.dj_image_step.proofs.ShortTables.{AreBoundedBelow}
use Rattle.dj_image_step.proofs.shortness.are_bounded.Given as goal

-- the methods so far
abbrev pub invariant-loop-number : goal.invariant-loop-number
invariant-loop-number l = AreBoundedBelow l.image l.number
