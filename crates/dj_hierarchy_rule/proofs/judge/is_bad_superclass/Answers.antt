use Rattle.std.proofs.Common.{◌||◌, Bool, sym, ap, ◌∙◌}
use Rattle.std.proofs.lemmas.Bool.{or_left}
use Rattle.dj_hierarchy_rule.specs.Known.{heads_of}
use Rattle.dj_hierarchy_rule.proofs.Judging.{superclass_unknown, superclass_known}
use Rattle.dj_hierarchy_rule.proofs.judge.is_bad_superclass.Goals as goal

pub returns-in-None : goal.returns-in-None
returns-in-None c = superclass_unknown (heads_of c.args.hierarchy.now) c.args.hierarchy.now.names c.args.name.now c.requires.names (sym c.in-None.ensures.value)

pub returns-then-known : goal.returns-then-known
returns-then-known c =
    superclass_known (heads_of c.args.hierarchy.now) c.args.hierarchy.now.names c.args.name.now c.requires.names c.in-Some.known.now c.in-Some.known.now.has_interface (sym c.in-Some.ensures.value)
    (c.if-known.true ∙ sym (or_left c.in-Some.known.now.has_interface c.in-Some.known.now.has_final c.if-known.true))

pub returns-else-known : goal.returns-else-known
returns-else-known c =
    superclass_known (heads_of c.args.hierarchy.now) c.args.hierarchy.now.names c.args.name.now c.requires.names c.in-Some.known.now c.in-Some.known.now.has_final (sym c.in-Some.ensures.value)
    (sym (ap (λ (b : Bool). b || c.in-Some.known.now.has_final) c.if-known.false))
