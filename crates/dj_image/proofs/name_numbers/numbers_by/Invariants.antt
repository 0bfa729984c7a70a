use Rattle.dj_image.specs.Indexed.{Holds}
use Rattle.dj_image.specs.NameNumbers.{name_number}
use Rattle.dj_image.proofs.name_numbers.numbers_by.Given as goal

-- of the indexes so far
abbrev pub invariant-loop-index : goal.invariant-loop-index
invariant-loop-index l = Holds (name_number l.directory l.pool) l.index l.kept.items
