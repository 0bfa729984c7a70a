use Rattle.std.proofs.Common.{◌++◌, ◌∙◌, List, map, sym, ap, subst}
use Rattle.dj_library_types.specs.Views.{library_view}
use Rattle.dj_model.specs.trusted.Program.{Class}
use Rattle.dj_model.specs.trusted.Libraries.{library_class}
use Rattle.dj_report.proofs.Adding.{on_ok}
use Rattle.dj_class_set.specs.Late.{IsJudging}
use Rattle.dj_class_set.proofs.LateLaws.{rows_mapped}
use Rattle.dj_class_set.proofs.LibraryDescriptors.{described}
use Rattle.dj_class_set.proofs.late.add_library.Goals as goal

pub add_rows-requires : goal.add_rows-requires
add_rows-requires c = described c.as_slice.result.now (subst IsJudging (sym (ap library_view c.as_slice.ensures)) c.requires)

pub returns : goal.returns
returns c =
    on_ok c.add_rows.result
    (λ is. is ∙ ap (λ (classes : List Class). c.args.declared.now.items ++ classes)
    (rows_mapped c.as_slice.result.now ∙ ap (map library_class) (ap library_view c.as_slice.ensures)))
    c.add_rows.ensures
