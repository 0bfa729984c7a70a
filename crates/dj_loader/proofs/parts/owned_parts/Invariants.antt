use Rattle.std.proofs.Common.{map}
use Rattle.dj_class.specs.Views.{class_of}
use Rattle.dj_loader.specs.Filed.{AreFirstParts}
use Rattle.dj_loader.proofs.parts.owned_parts.Given as goal

-- those of the classes so far
abbrev pub invariant-loop-class : goal.invariant-loop-class
invariant-loop-class l = AreFirstParts l.table (map class_of l.views) l.owners l.class l.parts.items
