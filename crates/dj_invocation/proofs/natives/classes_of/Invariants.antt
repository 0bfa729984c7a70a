use Rattle.std.proofs.Common.{take}
use Rattle.dj_image.specs.Imaged.{typed_of}
use Rattle.dj_invocation.specs.Natives.{AreClasses}
use Rattle.dj_invocation.proofs.natives.classes_of.Given as goal

-- the classes so far
abbrev pub invariant-loop-ty : goal.invariant-loop-ty
invariant-loop-ty l = AreClasses (typed_of l.image) (take l.ty-index l.types) l.classes.items
