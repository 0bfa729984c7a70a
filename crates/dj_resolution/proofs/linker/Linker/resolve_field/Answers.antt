use Rattle.std.proofs.Common.{◌≡◌, ◌<◌, ℕ, List, Some, length, sym, ◌∙◌, ap, subst}
use Rattle.std.specs.Global.{Vec}
use Rattle.std.specs.Option.{option_map}
use Rattle.dj_class_table.specs.Tables.{field_there}
use Rattle.dj_resolution.specs.Linked.{Linked, prefix_of, resolved_field}
use Rattle.dj_resolution.specs.Numbers.{AreAbove, lists_of}
use Rattle.dj_resolution.proofs.Resolution.{field_resolved}
use Rattle.dj_resolution.proofs.linker.Linker.resolve_field.Goals as goal

pub field_up-requires-clause-there : goal.field_up-requires-clause-there
field_up-requires-clause-there c = subst (λ (linked : Linked). c.args.class < length linked.program) (sym c.self.view_is) c.requires.there

pub field_up-requires-clause-above : goal.field_up-requires-clause-above
field_up-requires-clause-above c = subst (λ (lists : List (Vec ℕ)). AreAbove c.self.inside.table (lists_of lists)) (sym c.deref.ensures.value) c.self.invariant.above

pub returns : goal.returns
returns c =
    subst (λ (linked : Linked). option_map (field_there linked.program) c.field_up.result ≡ option_map Some (resolved_field linked c.args.class c.args.name.now c.args.desc.now)) c.self.view_is
    (c.field_up.ensures ∙ ap (option_map Some) (sym (field_resolved (record { program = c.self.inside.table; prefix = prefix_of c.self.inside.base }) c.args.class c.args.name.now c.args.desc.now
    c.names_differ.ensures (subst (λ (linked : Linked). c.args.class < length linked.program) (sym c.self.view_is) c.requires.there))))
