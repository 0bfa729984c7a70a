use Rattle.std.proofs.Common.{map, take}
use Rattle.dj_class.specs.Views.{class_of}
use Rattle.dj_image.specs.Imaged.{program_of}
use Rattle.dj_rewrite.specs.Steps.{IsProgress}
use Rattle.dj_rewrite.proofs.set.rewrite.Given as goal

-- what became of the classes so far
abbrev pub invariant-loop-view : goal.invariant-loop-view
invariant-loop-view l = IsProgress (program_of l.image) (map class_of (take l.view-index l.views)) l.progress
