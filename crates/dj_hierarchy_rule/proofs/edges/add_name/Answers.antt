use Rattle.std.proofs.Common.{sym}
use Rattle.dj_hierarchy_rule.proofs.Edging.{gains_unknown, gains_known}
use Rattle.dj_hierarchy_rule.proofs.edges.add_name.Goals as goal

pub returns-in-None : goal.returns-in-None
returns-in-None c = gains_unknown c.args.names.now c.args.name.now c.args.targets.now.items (sym c.in-None.ensures.value)

pub returns-in_ok-push-in-Some : goal.returns-in_ok-push-in-Some
returns-in_ok-push-in-Some c =
    gains_known c.args.names.now c.args.name.now c.in-Some.known.now c.args.targets.now.items c.push.new.self.items (sym c.in-Some.ensures.value) c.in_ok-push-in-Some.ensures.items
