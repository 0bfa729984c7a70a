use Rattle.std.proofs.Common.{◌≡◌, map, take}
use Rattle.dj_class.specs.Views.{class_of}
use Rattle.dj_declarations.specs.trusted.Files.{declared_class}
use Rattle.dj_loader.proofs.declaring.declare_views.Given as goal

abbrev pub invariant-loop-view : goal.invariant-loop-view
invariant-loop-view l = l.classes.items ≡ map declared_class (map class_of (take l.view-index l.views))
