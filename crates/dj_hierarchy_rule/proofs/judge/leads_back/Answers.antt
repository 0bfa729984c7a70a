use Rattle.std.proofs.Common.{sym}
use Rattle.dj_hierarchy_rule.specs.Views.{seen_view}
use Rattle.dj_hierarchy_rule.proofs.Judging.{way_back, no_way_back, eq_reported, false_reported}
use Rattle.dj_hierarchy_rule.proofs.judge.leads_back.Goals as goal

pub returns-in-None : goal.returns-in-None
returns-in-None c =
    false_reported (no_way_back c.args.hierarchy.now c.requires.known (seen_view c.args.head.now) c.requires.there c.args.above.now c.requires.over (sym c.in-None.ensures))

pub returns-in-Some : goal.returns-in-Some
returns-in-Some c =
    eq_reported c.args.own c.in-Some.other
    (way_back c.args.hierarchy.now c.requires.known (seen_view c.args.head.now) c.requires.there c.args.above.now c.requires.over c.args.own c.in-Some.other c.requires.numbered (sym c.in-Some.ensures))
