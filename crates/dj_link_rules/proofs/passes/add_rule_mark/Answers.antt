use Rattle.dj_link_rules.proofs.PassLaws.{reported_mark, foreign_mark, unlinked_mark}
use Rattle.dj_link_rules.proofs.passes.add_rule_mark.Goals as goal

pub returns-then-reported : goal.returns-then-reported
returns-then-reported c = reported_mark c.args.place c.args.reported c.args.foreign c.args.unlinked c.args.marks.now.items c.if-reported.true

pub returns-then-foreign : goal.returns-then-foreign
returns-then-foreign c =
    foreign_mark c.args.place c.args.reported c.args.foreign c.args.unlinked c.args.marks.now.items c.add_mark_if.new.marks.items c.if-reported.false c.if-foreign.true c.in_ok-add_mark_if.ensures

pub returns : goal.returns
returns c =
    unlinked_mark c.args.place c.args.reported c.args.foreign c.args.unlinked c.args.marks.now.items c.add_mark_if-2.new.marks.items c.if-reported.false c.if-foreign.false c.in_ok-add_mark_if-2.ensures
