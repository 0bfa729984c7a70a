use Rattle.std.proofs.Common.{None, map, refl}
use Rattle.dj_class.specs.Views.{class_of}
use Rattle.dj_image.specs.Imaged.{program_of}
use Rattle.dj_rewrite.proofs.LeastParts.{progress_none, progress_more, progress_all, set_rewritten, set_large}
use Rattle.dj_rewrite.proofs.set.rewrite.Goals as goal

pub loop-view-init : goal.loop-view-init
loop-view-init c = progress_none (program_of c.args.image.now) (record { files = c.new.result; least = None }) refl c.new.ensures.items

pub loop-view-preserved : goal.loop-view-preserved
loop-view-preserved c =
    progress_more (program_of c.args.image.now) c.args.views.now c.loop-view.view-index c.view-item.result c.loop-view.progress c.in_ok-progress.progress
    c.loop-view-test.true c.view-item.is c.in_ok-progress.ensures c.loop-view.invariant

pub returns-in-None : goal.returns-in-None
returns-in-None c =
    set_rewritten (program_of c.args.image.now) (map class_of c.args.views.now) c.loop-view.progress c.in_order.result
    (progress_all (program_of c.args.image.now) c.args.views.now c.loop-view.view-index c.loop-view.progress c.loop-view-test.false c.loop-view.invariant)
    c.in-None.is c.in_order.ensures.moved c.in_order.ensures.in_order

pub returns-in-Some : goal.returns-in-Some
returns-in-Some c =
    set_large (program_of c.args.image.now) (map class_of c.args.views.now) c.loop-view.progress _
    (progress_all (program_of c.args.image.now) c.args.views.now c.loop-view.view-index c.loop-view.progress c.loop-view-test.false c.loop-view.invariant)
    c.in-Some.is
