use Rattle.dj_class.specs.Views.{class_of}
use Rattle.dj_report.proofs.Adding.{on_ok}
use Rattle.dj_file_rules.proofs.FileLines.{adds_class_lines}
use Rattle.dj_file_rules.proofs.whole.add_class_lines.Goals as goal

pub returns : goal.returns
returns c =
    on_ok c.add_finalizer_lines.result
    (adds_class_lines c.args.path.now (class_of c.args.view.now)
    c.args.found.now.items c.add_version_lines.new.found.items c.add_name_lines.new.found.items c.add_native_lines.new.found.items c.add_finalizer_lines.new.found.items
    c.in_ok-add_version_lines.ensures c.in_ok-add_name_lines.ensures c.in_ok-add_native_lines.ensures)
    c.add_finalizer_lines.ensures
