use Rattle.std.proofs.Common.{◌∷◌, ◌++◌, [], map, ap, ◌∙◌}
use Rattle.std.proofs.lemmas.List.{map-append}
use Rattle.dj_edge.specs.InMemory.{file_in}
use Rattle.dj_edge.proofs.Lists.{mapped_more}
use Rattle.dj_file_rules.specs.Views.{path_file_view}
use Rattle.dj_class_set.proofs.class_set.lend_files.Goals as goal

pub loop-file-preserved : goal.loop-file-preserved
loop-file-preserved c =
    let so_far = map path_file_view c.loop-file.lent.items in
    ap (map path_file_view) c.in_ok-push.ensures.items ∙ map-append path_file_view c.loop-file.lent.items (c.lend_file.result ∷ [])
    ∙ ap (λ file. so_far ++ file ∷ []) c.lend_file.ensures
    ∙ mapped_more file_in c.args.files.now c.loop-file.file-index c.file-item.result so_far c.loop-file-test.true c.file-item.is c.loop-file.invariant
