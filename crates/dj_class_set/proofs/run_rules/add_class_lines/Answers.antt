use Rattle.std.proofs.Common.{List, Option, map, subst, sym}
use Rattle.dj_straight.specs.declared.program.StraightMethod.{StraightMethod}
use Rattle.dj_straight.specs.declared.program.StraightClass.{StraightClass}
use Rattle.dj_class_set.specs.trusted.Entry.{IsShapeLine, IsShapeLineOf}
use Rattle.dj_report.specs.Lines.{Adds}
use Rattle.dj_straight.specs.Methods.{method_view, program_view}
use Rattle.dj_file_rules.specs.Views.{path_file_view}
use Rattle.dj_report.proofs.Adding.{on_ok}
use Rattle.dj_class_set.proofs.RunRules.{adds_class}
use Rattle.dj_class_set.proofs.run_rules.add_class_lines.Goals as goal

pub returns-in-Some-Some-clause-lines : goal.returns-in-Some-Some-clause-lines
returns-in-Some-Some-clause-lines c =
    let lines : Adds (IsShapeLine c.in-Some-Some.file.now.path.now (map method_view c.in-Some-Some.class.methods.items)) c.args.found.now.items c.add_shape_lines.new.found.items
    → Adds (IsShapeLineOf (map path_file_view c.args.files.now) (program_view c.args.class.now)) c.args.found.now.items c.add_shape_lines.new.found.items =
    λ own. subst (λ (class : Option StraightClass). Adds (IsShapeLineOf (map path_file_view c.args.files.now) (program_view class)) c.args.found.now.items c.add_shape_lines.new.found.items)
    (sym c.in-Some-Some.is-1) (adds_class c.args.files.now c.in-Some-Some.file.now c.in-Some-Some.class c.args.found.now.items c.add_shape_lines.new.found.items (sym c.in-Some-Some.ensures.value) own) in
    on_ok c.add_shape_lines.result
    (λ own. lines (subst (λ (ms : List StraightMethod). Adds (IsShapeLine c.in-Some-Some.file.now.path.now (map method_view ms)) c.args.found.now.items c.add_shape_lines.new.found.items) c.as_slice.ensures.value own))
    c.add_shape_lines.ensures.lines
