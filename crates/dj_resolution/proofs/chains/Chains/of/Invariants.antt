use Rattle.dj_resolution.specs.Numbers.{lists_of}
use Rattle.dj_resolution.specs.Chained.{AreLearnt, row_at}
use Rattle.dj_resolution.proofs.chains.Chains.of.Given as goal

-- what is known so far
abbrev pub invariant-loop-class : goal.invariant-loop-class
invariant-loop-class l = AreLearnt l.table (row_at (lists_of l.rows)) (lists_of l.chains.lists.items) l.chains.places.items
