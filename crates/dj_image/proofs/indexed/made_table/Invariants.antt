use Rattle.dj_image.specs.Indexed.{Holds, kept_array}
use Rattle.dj_image.proofs.indexed.made_table.Given as goal

-- of the indexes so far
abbrev pub invariant-loop-index : goal.invariant-loop-index
invariant-loop-index l = Holds (kept_array l.pool l.arrays) l.index l.kept.items
