use Rattle.dj_image.specs.Indexed.{Holds, text_class}
use Rattle.dj_image.proofs.indexed.text_classes.Given as goal

-- of the indexes so far
abbrev pub invariant-loop-index : goal.invariant-loop-index
invariant-loop-index l = Holds (text_class l.types l.pool) l.index l.kept.items
