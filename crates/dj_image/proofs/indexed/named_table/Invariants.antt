use Rattle.dj_image.specs.Indexed.{Holds, kept_class}
use Rattle.dj_image.proofs.indexed.named_table.Given as goal

-- of the indexes so far
abbrev pub invariant-loop-index : goal.invariant-loop-index
invariant-loop-index l = Holds (kept_class l.pool l.classes) l.index l.kept.items
