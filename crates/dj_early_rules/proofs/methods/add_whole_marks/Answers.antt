use Rattle.dj_report.proofs.Adding.{on_ok}
use Rattle.dj_early_rules.proofs.MethodLaws.{whole_marks}
use Rattle.dj_early_rules.proofs.methods.add_whole_marks.Goals as goal

pub returns : goal.returns
returns c =
    on_ok c.add_mark_if-2.result
    (whole_marks c.args.names c.args.float c.args.interface_code c.args.marks.now.items c.add_mark_if.new.marks.items c.add_mark_if-2.new.marks.items c.in_ok-add_mark_if.ensures)
    c.add_mark_if-2.ensures
