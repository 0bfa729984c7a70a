use Rattle.std.proofs.Common.{drop}
use Rattle.dj_class_table.specs.Tables.{fields_at}
use Rattle.dj_resolution.specs.Linked.{class_name}
use Rattle.dj_image.specs.Imaged.{program_of}
use Rattle.dj_initialisation.specs.Store.{Leads, class_constants, constants_from, store}
use Rattle.dj_initialisation.proofs.constants.fill_class.Given as goal

abbrev pub invariant-loop-at : goal.invariant-loop-at
invariant-loop-at l =
    Leads l.image (class_constants l.image l.class) (constants_from l.image (class_name (program_of l.image) l.class) (drop l.at (fields_at (program_of l.image) l.class)))
    (store l.fn.heap l.fn.statics l.fn.literals) (store l.heap l.statics l.literals)
