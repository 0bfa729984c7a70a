use Rattle.std.proofs.Common.{◌≡◌}
use Rattle.dj_image.specs.ArrayRows.{levels}
use Rattle.dj_image.proofs.arrays.levels_of.Given as goal

-- those of this many dimensions
abbrev pub invariant-loop-below : goal.invariant-loop-below
invariant-loop-below l = l.arrays.items ≡ levels l.below l.tops
