use Rattle.std.proofs.Common.{◌↔◌, ℕ, List, IsTrue, subst}
use Rattle.dj_class.specs.Views.{class_of}
use Rattle.dj_report.proofs.Adding.{on_ok}
use Rattle.dj_early_rules.specs.trusted.Classes.{IsReserved}
use Rattle.dj_early_rules.proofs.FileLaws.{naming_lines}
use Rattle.dj_early_rules.proofs.classes.add_naming_lines.Goals as goal

pub returns : goal.returns
returns c =
    on_ok c.add_file_line_if-2.result
    (naming_lines c.args.path.now (class_of c.args.view.now) c.is_reserved.result c.has_float_constant.result c.args.found.now.items c.add_file_line_if.new.found.items c.add_file_line_if-2.new.found.items
    (subst (λ (name : List ℕ). IsTrue c.is_reserved.result ↔ IsReserved name) c.class_name.ensures c.is_reserved.ensures) c.has_float_constant.ensures c.in_ok-add_file_line_if.ensures)
    c.add_file_line_if-2.ensures
