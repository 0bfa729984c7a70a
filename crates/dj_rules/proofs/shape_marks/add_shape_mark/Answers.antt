use Rattle.dj_class.specs.Members.{member_of}
use Rattle.dj_report.proofs.Adding.{on_ok}
use Rattle.dj_rules.proofs.ShapeLaws.{shape_marks}
use Rattle.dj_rules.proofs.shape_marks.add_shape_mark.Goals as goal

pub returns-clause-marks : goal.returns-clause-marks
returns-clause-marks c =
    on_ok c.add_fault_mark.result
    (shape_marks c.args.view.now.pool (member_of c.args.method.now) c.args.names c.in_ok-fault.fault c.args.marks.now.items c.add_fault_mark.new.marks.items c.in_ok-fault.ensures)
    c.add_fault_mark.ensures
