use Rattle.std.proofs.Common.{◌≡◌, ◌<◌, ℕ, List, Some, length, sym, subst}
use Rattle.std.specs.Global.{Vec}
use Rattle.std.specs.Option.{option_map}
use Rattle.dj_class_table.specs.Tables.{method_there}
use Rattle.dj_model.specs.trusted.Types.{object_name}
use Rattle.dj_resolution.specs.Linked.{Linked, prefix_of, resolved_method}
use Rattle.dj_resolution.specs.Numbers.{AreAbove, lists_of}
use Rattle.dj_resolution.proofs.Resolution.{method_here, method_above, object_within}
use Rattle.dj_resolution.proofs.linker.Linker.resolve_method.Goals as goal

pub method_first-requires-clause-object : goal.method_first-requires-clause-object
method_first-requires-clause-object c = object_within c.self.inside.table (object_name (prefix_of c.self.inside.base)) c.self.inside.object c.self.inside.named

pub method_first-requires-clause-there : goal.method_first-requires-clause-there
method_first-requires-clause-there c = subst (λ (linked : Linked). c.args.class < length linked.program) (sym c.self.view_is) c.requires.there

pub plain_method_up-requires-clause-there : goal.plain_method_up-requires-clause-there
plain_method_up-requires-clause-there c = subst (λ (linked : Linked). c.args.class < length linked.program) (sym c.self.view_is) c.requires.there

pub plain_method_up-requires-clause-above : goal.plain_method_up-requires-clause-above
plain_method_up-requires-clause-above c = subst (λ (lists : List (Vec ℕ)). AreAbove c.self.inside.table (lists_of lists)) (sym c.deref.ensures.value) c.self.invariant.above

pub returns-in-Some : goal.returns-in-Some
returns-in-Some c =
    subst (λ (linked : Linked). Some (method_there linked.program c.in-Some.place) ≡ option_map Some (resolved_method linked c.args.class c.args.name.now c.args.desc.now)) c.self.view_is
    (method_here (record { program = c.self.inside.table; prefix = prefix_of c.self.inside.base }) c.args.class c.args.name.now c.args.desc.now c.self.inside.object (method_there c.self.inside.table c.in-Some.place)
    c.names_differ.ensures (subst (λ (linked : Linked). c.args.class < length linked.program) (sym c.self.view_is) c.requires.there)
    c.self.inside.named c.in-Some.ensures)

pub returns-in-None : goal.returns-in-None
returns-in-None c =
    subst (λ (linked : Linked). option_map (method_there linked.program) c.plain_method_up.result ≡ option_map Some (resolved_method linked c.args.class c.args.name.now c.args.desc.now)) c.self.view_is
    (method_above (record { program = c.self.inside.table; prefix = prefix_of c.self.inside.base }) c.args.class c.args.name.now c.args.desc.now c.self.inside.object
    (option_map (method_there c.self.inside.table) c.plain_method_up.result)
    c.names_differ.ensures (subst (λ (linked : Linked). c.args.class < length linked.program) (sym c.self.view_is) c.requires.there)
    c.self.inside.named c.in-None.ensures c.plain_method_up.ensures)
