use Rattle.std.proofs.Common.{List, [], map, ap, ◌∙◌, subst}
use Rattle.std.proofs.lemmas.Result.{err_from_is_err_and}
use Rattle.dj_class.specs.Views.{class_of}
use Rattle.dj_library_types.specs.Views.{library_view}
use Rattle.dj_model.specs.trusted.Program.{Class}
use Rattle.dj_model.specs.trusted.Libraries.{joined}
use Rattle.dj_class_table.specs.Tables.{IsShared}
use Rattle.dj_loader.specs.Loads.{all_classes, Never}
use Rattle.dj_loader.proofs.Moved.{refuses_lacking, refuses_cycles, is_loadable}
use Rattle.dj_loader.proofs.loading.whole_table.Goals as goal

pub returns-in_err-refuse_lacking-clause-refused : goal.returns-in_err-refuse_lacking-clause-refused
returns-in_err-refuse_lacking-clause-refused c =
    let all = all_classes (library_view c.args.library.now) (map class_of c.args.views.now) in
    let is = c.in_ok-table.ensures.table ∙ ap (λ (classes : List Class). joined classes []) c.in_ok-classes.ensures.classes in
    let differ = subst (λ (classes : List Class). Never (IsShared classes)) c.in_ok-classes.ensures.classes c.in_ok-table.ensures.differ in
    let p = err_from_is_err_and c.from_residual-in_err-refuse_lacking.result c.from_residual-in_err-refuse_lacking.ensures.1 in
    rw (p.1, p.2) (refuses_lacking all c.in_ok-table.table is differ c.in_err-refuse_lacking.field-0.0 c.in_err-refuse_lacking.ensures.refused)

pub returns-in_err-refuse_cycles-clause-refused : goal.returns-in_err-refuse_cycles-clause-refused
returns-in_err-refuse_cycles-clause-refused c =
    let all = all_classes (library_view c.args.library.now) (map class_of c.args.views.now) in
    let is = c.in_ok-table.ensures.table ∙ ap (λ (classes : List Class). joined classes []) c.in_ok-classes.ensures.classes in
    let differ = subst (λ (classes : List Class). Never (IsShared classes)) c.in_ok-classes.ensures.classes c.in_ok-table.ensures.differ in
    let p = err_from_is_err_and c.from_residual-in_err-refuse_cycles.result c.from_residual-in_err-refuse_cycles.ensures.1 in
    rw (p.1, p.2) (refuses_cycles all c.in_ok-table.table is differ c.in_ok-refuse_lacking.ensures.whole c.in_err-refuse_cycles.field-0.0 c.in_err-refuse_cycles.ensures.refused)

pub returns-clause-loadable : goal.returns-clause-loadable
returns-clause-loadable c =
    let all = all_classes (library_view c.args.library.now) (map class_of c.args.views.now) in
    let is = c.in_ok-table.ensures.table ∙ ap (λ (classes : List Class). joined classes []) c.in_ok-classes.ensures.classes in
    let differ = subst (λ (classes : List Class). Never (IsShared classes)) c.in_ok-classes.ensures.classes c.in_ok-table.ensures.differ in
    is_loadable all c.in_ok-table.table is differ c.in_ok-refuse_lacking.ensures.whole c.in_ok-refuse_cycles.ensures.acyclic
