use Rattle.dj_image.specs.Indexed.{Holds, text_place}
use Rattle.dj_image.proofs.indexed.text_places.Given as goal

-- of the indexes so far
abbrev pub invariant-loop-index : goal.invariant-loop-index
invariant-loop-index l = Holds (text_place l.texts l.pool) l.index l.kept.items
