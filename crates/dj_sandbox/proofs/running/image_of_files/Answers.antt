use Rattle.std.proofs.Common.{List, map, sym, subst}
use Rattle.dj_names.specs.trusted.Library.{raw_library}
use Rattle.dj_class.specs.declared.class.ClassView.{ClassView}
use Rattle.dj_class.specs.Views.{class_of}
use Rattle.dj_file_rules.specs.Views.{path_file_view}
use Rattle.dj_loader.specs.Parting.{IsTableOf}
use Rattle.dj_class_set.specs.trusted.Checked.{AreGoodFiles}
use Rattle.dj_sandbox.proofs.LoadingLaws.{good_of, whole_files, valid_views, whole_views, raw_table, raw_plain}
use Rattle.dj_sandbox.proofs.RunLaws.{image_is}
use Rattle.dj_sandbox.proofs.running.image_of_files.Goals as goal

pub views_of-requires-clause-whole : goal.views_of-requires-clause-whole
views_of-requires-clause-whole c = whole_files c.args.files.now c.requires.silent

pub raw_image-requires-clause-valid : goal.raw_image-requires-clause-valid
raw_image-requires-clause-valid c =
    let files = map path_file_view c.args.files.now in
    let good = good_of files (map class_of c.in_ok-views.views.items) c.requires.silent c.in_ok-views.ensures in
    let lent = subst (λ (views : List ClassView). AreGoodFiles files (map class_of views)) (sym c.deref.ensures.value) good in
    valid_views files c.deref.result.now lent

pub raw_image-requires-clause-coded : goal.raw_image-requires-clause-coded
raw_image-requires-clause-coded c =
    let files = map path_file_view c.args.files.now in
    let good = good_of files (map class_of c.in_ok-views.views.items) c.requires.silent c.in_ok-views.ensures in
    let lent = subst (λ (views : List ClassView). AreGoodFiles files (map class_of views)) (sym c.deref.ensures.value) good in
    whole_views files c.deref.result.now lent

pub raw_image-requires-clause-table : goal.raw_image-requires-clause-table
raw_image-requires-clause-table c =
    subst (λ (views : List ClassView). IsTableOf raw_library (map class_of views) c.args.linker.program) (sym c.deref.ensures.value)
    (raw_table c.args.files.now (map class_of c.in_ok-views.views.items) c.args.linker c.requires.few c.requires.silent c.in_ok-views.ensures c.requires.linked)

pub raw_image-requires-clause-plain : goal.raw_image-requires-clause-plain
raw_image-requires-clause-plain c = raw_plain (map path_file_view c.args.files.now) c.args.linker c.requires.linked

pub returns : goal.returns
returns c =
    let files = map path_file_view c.args.files.now in
    let good = good_of files (map class_of c.in_ok-views.views.items) c.requires.silent c.in_ok-views.ensures in
    let lent = subst (λ (views : List ClassView). AreGoodFiles files (map class_of views)) (sym c.deref.ensures.value) good in
    image_is files c.deref.result.now c.raw_image.result lent c.raw_image.ensures.program c.raw_image.ensures.prefix
