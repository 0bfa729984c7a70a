use Rattle.std.proofs.Common.{List, map, subst, ◌∙◌}
use Rattle.std.proofs.lemmas.List.{length-map}
use Rattle.dj_report.specs.declared.report.Violation.{Violation}
use Rattle.dj_class_set.specs.trusted.Entry.{IsShapeLineOf}
use Rattle.dj_report.specs.Lines.{Adds}
use Rattle.dj_straight.specs.Methods.{program_view}
use Rattle.dj_file_rules.specs.Views.{path_file_view}
use Rattle.dj_class_set.proofs.RunRules.{all_shaped, run_lines}
use Rattle.dj_class_set.proofs.run_rules.run_violations.Goals as goal

pub returns-clause-lines : goal.returns-clause-lines
returns-clause-lines c =
    run_lines (map path_file_view c.args.files.now) (program_view c.args.class.now) c.args.entry.now
    c.add_class_lines.new.found.items c.add_entry_line.new.found.items c.in_order.result
    (subst (λ (old : List Violation). Adds (IsShapeLineOf (map path_file_view c.args.files.now) (program_view c.args.class.now)) old c.add_class_lines.new.found.items)
    c.new-found.ensures.items c.in_ok-add_class_lines.ensures.lines)
    c.in_ok-add_entry_line.ensures c.in_order.ensures.ordered c.in_order.ensures.members

pub returns-clause-shaped : goal.returns-clause-shaped
returns-clause-shaped c =
    all_shaped (map path_file_view c.args.files.now) c.args.class.now c.args.entry.now c.in_order.result
    (length-map c.args.files.now path_file_view ∙ c.requires.as_many) (returns-clause-lines c) c.in_ok-add_class_lines.ensures.judged
