use Rattle.dj_report.proofs.Adding.{on_ok}
use Rattle.dj_link_rules.proofs.PassLaws.{handler_mark}
use Rattle.dj_link_rules.proofs.passes.add_handler_mark.Goals as goal

pub returns : goal.returns
returns c =
    on_ok c.add_rule_mark.result
    (handler_mark c.args.names c.args.known.now c.args.pool.now c.args.range c.catches_error-reported.result c.is_foreign_catch-foreign.result c.is_unlinked_catch-unlinked.result c.args.marks.now.items c.add_rule_mark.new.marks.items
    c.catches_error-reported.ensures c.is_foreign_catch-foreign.ensures c.is_unlinked_catch-unlinked.ensures)
    c.add_rule_mark.ensures
