use Rattle.dj_image.specs.Indexed.{Holds}
use Rattle.dj_image.specs.Homes.{operand_at}
use Rattle.dj_image.proofs.operands.operand_table.Given as goal

-- of the indexes so far
abbrev pub invariant-loop-index : goal.invariant-loop-index
invariant-loop-index l = Holds (operand_at l.types l.pool l.texts l.classes l.object) l.index l.kept.items
