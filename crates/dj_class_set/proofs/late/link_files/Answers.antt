use Rattle.std.proofs.Common.{Option, map, subst}
use Rattle.std.specs.Option.{option_map}
use Rattle.std.specs.Global.{Vec}
use Rattle.dj_edge.proofs.Lists.{ok_so}
use Rattle.dj_library_types.specs.Views.{library_view}
use Rattle.dj_model.specs.trusted.Program.{Class}
use Rattle.dj_file_rules.specs.Views.{path_file_view}
use Rattle.dj_class_set.specs.Late.{AreDeclaredOrNot, AreLinksOf, AreLinks}
use Rattle.dj_class_set.proofs.LateLaws.{few_declared, are_links}
use Rattle.dj_class_set.proofs.late.link_files.Goals as goal

pub link_classes-requires-clause-few : goal.link_classes-requires-clause-few
link_classes-requires-clause-few c =
    few_declared c.args.files.now c.in-Some.declared.items c.requires.few
    (subst (λ (d : Option (Vec Class)). AreDeclaredOrNot (map path_file_view c.args.files.now) (option_map (λ classes. classes.items) d)) c.in-Some.is c.in_ok-declared.ensures)

pub returns-in-Some : goal.returns-in-Some
returns-in-Some c =
    let files = map path_file_view c.args.files.now in
    let declared = c.in-Some.declared.items in
    let reported = subst (λ (d : Option (Vec Class)). AreDeclaredOrNot files (option_map (λ classes. classes.items) d)) c.in-Some.is c.in_ok-declared.ensures in
    let library = library_view c.args.library.now in
    ok_so c.link_classes.result (AreLinksOf library declared) (AreLinks library files) (λ links is. are_links library files declared links reported is) c.link_classes.ensures
