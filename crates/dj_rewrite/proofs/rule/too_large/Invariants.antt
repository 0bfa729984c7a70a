use Rattle.std.proofs.Common.{[], take}
use Rattle.dj_class.specs.declared.class.ClassView.{ClassView}
use Rattle.dj_class.specs.Views.{class_of}
use Rattle.dj_image.specs.Imaged.{program_of}
use Rattle.dj_report.specs.Lines.{Adds, IsLineAmong}
use Rattle.dj_rewrite.specs.Rule.{IsTooLargeLineIn}
use Rattle.dj_rewrite.proofs.rule.too_large.Given as goal

-- the lines of the classes so far
abbrev pub invariant-loop-view : goal.invariant-loop-view
invariant-loop-view l = Adds (IsLineAmong (λ (view : ClassView). IsTooLargeLineIn (program_of l.image) (class_of view)) (take l.view-index l.views)) [] l.found.items
