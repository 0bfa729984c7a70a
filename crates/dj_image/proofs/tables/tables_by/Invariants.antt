use Rattle.std.proofs.Common.{take}
use Rattle.dj_image.specs.Gathered.{AreOfClasses}
use Rattle.dj_image.specs.Tables.{imaged_of}
use Rattle.dj_image.proofs.tables.tables_by.Given as goal

-- of the classes so far
abbrev pub invariant-loop-class : goal.invariant-loop-class
invariant-loop-class l = AreOfClasses (imaged_of l.types l.parts l.texts) (take l.class-index l.parts) l.tables
