use Rattle.std.proofs.Common.{take}
use Rattle.dj_class_table.specs.Tables.{fields_at}
use Rattle.dj_image.specs.Imaged.{program_of}
use Rattle.dj_initialisation.specs.Places.{IsCounted}
use Rattle.dj_initialisation.proofs.places.add_class.Given as goal

abbrev pub invariant-loop-at : goal.invariant-loop-at
invariant-loop-at l = IsCounted (take l.at (fields_at (program_of l.image) l.class)) l.fn.each.items l.before l.each.items l.count
