use Rattle.dj_class_table.specs.Tables.{methods_at}
use Rattle.dj_image.specs.Imaged.{program_of}
use Rattle.dj_initialisation.proofs.InitialiserLaws.{NoneYet}
use Rattle.dj_initialisation.proofs.initialisers.initialiser_of.Given as goal

abbrev pub invariant-loop-at : goal.invariant-loop-at
invariant-loop-at l = NoneYet (methods_at (program_of l.image) l.class) l.at
