use Rattle.std.proofs.Common.{◌≡◌, take}
use Rattle.dj_initialisation.specs.Initialisers.{pushed}
use Rattle.dj_initialisation.proofs.pushing.push_all.Given as goal

abbrev pub invariant-loop-class : goal.invariant-loop-class
invariant-loop-class l = l.frames ≡ pushed l.initialisers (take l.class-index l.classes) l.fn.frames
