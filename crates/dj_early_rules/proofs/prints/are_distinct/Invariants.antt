use Rattle.dj_early_rules.specs.Prints.{AreNoted}
use Rattle.dj_early_rules.proofs.prints.are_distinct.Given as goal

-- the indexes so far
abbrev pub invariant-loop-index : goal.invariant-loop-index
invariant-loop-index l = AreNoted l.prints l.pool l.marks l.index
