use Rattle.dj_image.specs.Indexed.{Holds, text_array}
use Rattle.dj_image.proofs.indexed.text_arrays.Given as goal

-- of the indexes so far
abbrev pub invariant-loop-index : goal.invariant-loop-index
invariant-loop-index l = Holds (text_array l.types l.pool) l.index l.kept.items
