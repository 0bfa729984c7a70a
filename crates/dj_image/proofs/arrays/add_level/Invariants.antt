use Rattle.std.proofs.Common.{◌≡◌, ◌++◌, take}
use Rattle.dj_image.specs.ArrayRows.{level}
use Rattle.dj_image.proofs.arrays.add_level.Given as goal

-- those of the tops so far
abbrev pub invariant-loop-top : goal.invariant-loop-top
invariant-loop-top l = l.arrays.items ≡ l.fn.arrays.items ++ level l.dims (take l.top-index l.tops)
