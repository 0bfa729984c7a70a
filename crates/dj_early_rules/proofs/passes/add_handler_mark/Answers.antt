use Rattle.dj_report.proofs.Adding.{on_ok}
use Rattle.dj_early_rules.proofs.MarkLaws.{handler_mark}
use Rattle.dj_early_rules.proofs.passes.add_handler_mark.Goals as goal

pub returns : goal.returns
returns c =
    on_ok c.add_mark_if.result
    (handler_mark c.args.names c.args.pool.now c.args.range c.catches_error.result c.args.marks.now.items c.add_mark_if.new.marks.items c.catches_error.ensures)
    c.add_mark_if.ensures
