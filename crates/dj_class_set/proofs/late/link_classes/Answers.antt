use Rattle.std.proofs.Common.{List, [], ap, ◌∙◌}
use Rattle.dj_edge.proofs.Lists.{ok_so}
use Rattle.dj_model.specs.trusted.Program.{Class}
use Rattle.dj_model.specs.trusted.Libraries.{joined}
use Rattle.dj_loader.proofs.Moved.{rise_of_table}
use Rattle.dj_library_types.specs.Views.{library_view}
use Rattle.dj_class_set.specs.Late.{IsLinkOf, AreLinksOf}
use Rattle.dj_class_set.proofs.LateLaws.{few_all, are_links_of}
use Rattle.dj_class_set.proofs.late.link_classes.Goals as goal

pub of-requires : goal.of-requires
of-requires c = few_all (library_view c.args.library.now) c.args.declared.items c.add_library.new.declared.items c.requires.library c.requires.few c.in_ok-add_library.ensures

pub link_table-requires : goal.link_table-requires
link_table-requires c = rise_of_table _ c.in-Ok.table c.in-Ok.ensures.ok c.in-Ok.ensures.differ

pub returns-in-Ok : goal.returns-in-Ok
returns-in-Ok c =
    let is = c.in-Ok.ensures.ok ∙ ap (λ (classes : List Class). joined classes []) c.in_ok-add_library.ensures in
    let library = library_view c.args.library.now in
    ok_so c.link_table.result (IsLinkOf c.in-Ok.table) (AreLinksOf library c.args.declared.items) (λ links of. are_links_of library c.args.declared.items c.in-Ok.table links is of) c.link_table.ensures
