use Rattle.std.proofs.Common.{take}
use Rattle.dj_image.specs.Imaged.{program_of}
use Rattle.dj_initialisation.specs.Places.{AreCounted}
use Rattle.dj_initialisation.proofs.places.StaticPlaces.of.Given as goal

abbrev pub invariant-loop-class : goal.invariant-loop-class
invariant-loop-class l = AreCounted (take l.class (program_of l.image)) l.each.items l.count
