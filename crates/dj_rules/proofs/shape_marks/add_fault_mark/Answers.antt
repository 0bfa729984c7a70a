use Rattle.std.proofs.Common.{Option, sym, subst}
use Rattle.dj_report.specs.Lines.{Gains}
use Rattle.dj_report.proofs.Adding.{on_ok}
use Rattle.dj_early_rules.specs.Marks.{MarksOf}
use Rattle.dj_shape_rule.specs.declared.judge.ShapeFault.{ShapeFault}
use Rattle.dj_rules.specs.Late.{FaultViolates}
use Rattle.dj_rules.proofs.ShapeLaws.{fault_mark}
use Rattle.dj_rules.proofs.shape_marks.add_fault_mark.Goals as goal

pub returns : goal.returns
returns c =
    on_ok c.add_mark_if.result
    (λ added. subst (λ (fault : Option ShapeFault). Gains (MarksOf c.args.names (FaultViolates fault)) c.args.marks.now.items c.add_mark_if.new.marks.items) (sym c.in-Some.is)
    (fault_mark c.args.names c.in-Some.fault c.args.marks.now.items c.add_mark_if.new.marks.items added))
    c.add_mark_if.ensures
