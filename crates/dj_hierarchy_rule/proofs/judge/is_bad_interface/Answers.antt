use Rattle.std.proofs.Common.{refl, sym}
use Rattle.dj_hierarchy_rule.specs.Known.{heads_of}
use Rattle.dj_hierarchy_rule.proofs.Judging.{interface_unknown, interface_known}
use Rattle.dj_hierarchy_rule.proofs.judge.is_bad_interface.Goals as goal

pub returns-in-None : goal.returns-in-None
returns-in-None c = interface_unknown (heads_of c.args.hierarchy.now) c.args.hierarchy.now.names c.args.name.now c.requires.names (sym c.in-None.ensures.value)

pub returns-in-Some : goal.returns-in-Some
returns-in-Some c =
    interface_known (heads_of c.args.hierarchy.now) c.args.hierarchy.now.names c.args.name.now c.requires.names c.in-Some.known.now c.in-Some.known.now.has_class (sym c.in-Some.ensures.value) refl
