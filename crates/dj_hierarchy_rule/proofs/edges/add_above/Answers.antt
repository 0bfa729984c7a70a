use Rattle.std.proofs.Common.{ap}
use Rattle.std.specs.Prelude.{option_map}
use Rattle.dj_hierarchy_rule.specs.Views.{seen_view, text_of}
use Rattle.dj_hierarchy_rule.proofs.Edging.{ok_then, above_none, above_some}
use Rattle.dj_hierarchy_rule.proofs.edges.add_above.Goals as goal

pub returns-in-None : goal.returns-in-None
returns-in-None c =
    ok_then c.add_names.result
    (above_none c.args.names.now (seen_view c.args.head.now) c.args.targets.now.items c.add_names.new.targets.items (ap (option_map text_of) c.in-None.is))
    c.add_names.ensures

pub returns-in_ok-add_name-in-Some : goal.returns-in_ok-add_name-in-Some
returns-in_ok-add_name-in-Some c =
    ok_then c.add_names-in-Some.result
    (above_some c.args.names.now (seen_view c.args.head.now) c.in-Some.name.now c.args.targets.now.items c.add_name.new.targets.items c.add_names-in-Some.new.targets.items
    (ap (option_map text_of) c.in-Some.is) c.in_ok-add_name-in-Some.ensures)
    c.add_names-in-Some.ensures
