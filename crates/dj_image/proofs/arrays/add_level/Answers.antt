use Rattle.std.proofs.Common.{refl, ap, ◌∙◌, Vec}
use Rattle.std.specs.Global.{Global}
use Rattle.dj_numbering.specs.declared.shapes.Shape.{Shape}
use Rattle.dj_image.proofs.Levels.{level_pushed, level_skipped}
use Rattle.dj_image.proofs.arrays.add_level.Goals as goal
use Rattle.dj_image.proofs.arrays.add_level.Goals.{then-dims-top+in_ok-push, else-dims-top}

pub loop-top-preserved : goal.loop-top-preserved
loop-top-preserved c = elim c.if-dims-top.branch [
  | then-dims-top+in_ok-push w ↦ ap (λ (arrays : Vec Shape Global). arrays.items) w.arrays-is
      ∙ level_pushed c.args.dims c.args.tops.now c.loop-top.top-index _ _ c.args.arrays.now.items c.loop-top.arrays.items w.push.new.self.items c.loop-top-test.true refl c.loop-top.invariant w.if-dims-top.true w.in_ok-push.ensures.items
  | else-dims-top w ↦ ap (λ (arrays : Vec Shape Global). arrays.items) w.arrays-is
      ∙ level_skipped c.args.dims c.args.tops.now c.loop-top.top-index _ _ c.args.arrays.now.items c.loop-top.arrays.items c.loop-top-test.true refl c.loop-top.invariant w.if-dims-top.false
]
