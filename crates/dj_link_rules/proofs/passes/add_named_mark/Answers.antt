use Rattle.dj_report.proofs.Adding.{on_ok}
use Rattle.dj_link_rules.proofs.PassLaws.{instr_mark}
use Rattle.dj_link_rules.proofs.passes.add_named_mark.Goals as goal

pub returns : goal.returns
returns c =
    on_ok c.add_rule_mark.result
    (instr_mark c.args.place c.args.known.now c.args.pool.now c.args.instr.now c.is_reported-reported.result c.is_foreign-foreign.result c.is_unlinked-unlinked.result c.args.marks.now.items c.add_rule_mark.new.marks.items
    c.is_reported-reported.ensures c.is_foreign-foreign.ensures c.is_unlinked-unlinked.ensures)
    c.add_rule_mark.ensures
