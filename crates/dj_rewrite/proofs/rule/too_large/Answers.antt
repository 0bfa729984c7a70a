use Rattle.std.proofs.Common.{[], List, take, sym, subst}
use Rattle.dj_class.specs.declared.class.ClassView.{ClassView}
use Rattle.dj_class.specs.Views.{class_of}
use Rattle.dj_image.specs.Imaged.{program_of}
use Rattle.dj_report.specs.declared.report.Violation.{Violation}
use Rattle.dj_report.specs.Lines.{Adds, IsLineAmong}
use Rattle.dj_report.proofs.Adding.{adds_none_yet, adds_read}
use Rattle.dj_rewrite.specs.Rule.{IsTooLargeLineIn}
use Rattle.dj_rewrite.proofs.TooLarges.{found_all}
use Rattle.dj_rewrite.proofs.rule.too_large.Goals as goal

pub loop-view-init : goal.loop-view-init
loop-view-init c =
    let IsOwn = λ (view : ClassView). IsTooLargeLineIn (program_of c.args.image.now) (class_of view) in
    subst (λ (xs : List Violation). Adds (IsLineAmong IsOwn (take 0 c.args.views.now)) [] xs) (sym c.new-found.ensures.items) (adds_none_yet IsOwn c.args.views.now [])

pub loop-view-preserved : goal.loop-view-preserved
loop-view-preserved c =
    adds_read (λ (view : ClassView). IsTooLargeLineIn (program_of c.args.image.now) (class_of view)) c.args.views.now c.loop-view.view-index c.view-item.result
    [] c.loop-view.found.items c.add_lines.new.found.items c.loop-view-test.true c.view-item.is c.loop-view.invariant c.in_ok-add_lines.ensures

pub returns : goal.returns
returns c =
    found_all (program_of c.args.image.now) c.args.views.now c.loop-view.view-index c.loop-view.found.items c.in_order.result c.loop-view-test.false c.loop-view.invariant
    c.in_order.ensures.ordered c.in_order.ensures.members
