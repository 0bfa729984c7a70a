use Rattle.std.proofs.Common.{sym}
use Rattle.dj_hierarchy_rule.specs.Views.{seen_view}
use Rattle.dj_hierarchy_rule.proofs.Edging.{ok_then, head_more}
use Rattle.dj_hierarchy_rule.proofs.edges.add_head.Goals as goal

pub returns-in-Some : goal.returns-in-Some
returns-in-Some c =
    ok_then c.add_above.result
    (head_more c.args.names.now (seen_view c.args.head.now) c.args.edges.now.items c.in-Some.known.now c.index_mut.result.now c.add_above.new.targets (sym c.in-Some.ensures.value) c.requires c.index_mut.ensures.value)
    c.add_above.ensures
