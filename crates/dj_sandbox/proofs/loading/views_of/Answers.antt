use Rattle.std.proofs.Common.{◌+◌, List, map, take, sym, subst}
use Rattle.dj_class.specs.declared.class.ClassView.{ClassView}
use Rattle.dj_class.specs.Views.{class_of}
use Rattle.dj_file_rules.specs.Views.{path_file_view}
use Rattle.dj_class_set.specs.Late.{AreReadFiles}
use Rattle.dj_sandbox.proofs.LoadingLaws.{one_more_read, all_read}
use Rattle.dj_sandbox.proofs.loading.views_of.Goals as goal

pub loop-file-preserved : goal.loop-file-preserved
loop-file-preserved c =
    let files = c.args.files.now in
    let i = c.loop-file.file-index in
    subst (λ (views : List ClassView). AreReadFiles (map path_file_view (take (i + 1) files)) (map class_of views)) (sym {A = List ClassView} c.in_ok-push.ensures.items)
    (one_more_read files i _ c.loop-file.views.items c.in_ok-view.view c.loop-file-test.true c.loop-file.invariant c.in_ok-view.ensures)

pub returns : goal.returns
returns c = all_read c.args.files.now c.loop-file.file-index c.loop-file.views.items c.loop-file-test.false c.loop-file.invariant
