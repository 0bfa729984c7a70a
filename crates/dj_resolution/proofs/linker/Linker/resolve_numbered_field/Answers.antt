use Rattle.std.proofs.Common.{◌≡◌, ◌<◌, ℕ, List, Some, length, sym, ◌∙◌, ap, subst}
use Rattle.std.specs.Global.{Vec}
use Rattle.std.specs.Option.{option_map}
use Rattle.dj_model.specs.trusted.Program.{Program}
use Rattle.dj_declarations.specs.trusted.Files.{desc_in}
use Rattle.dj_class_table.specs.Tables.{field_there}
use Rattle.dj_resolution.specs.Linked.{Linked, prefix_of, resolved_field}
use Rattle.dj_resolution.specs.Chained.{AreFieldChains}
use Rattle.dj_resolution.specs.Numbers.{AreAbove, lists_of}
use Rattle.dj_resolution.specs.Shared.{HaveFieldMarks}
use Rattle.dj_resolution.proofs.Numbered.{FieldSays}
use Rattle.dj_resolution.proofs.Resolution.{field_resolved}
use Rattle.dj_resolution.proofs.linker.Linker.resolve_numbered_field.Goals as goal

pub field_up-requires-clause-there : goal.field_up-requires-clause-there
field_up-requires-clause-there c = subst (λ (p : Program). c.args.class < length p) (sym c.requires.same) c.requires.there

pub field_up-requires-clause-above : goal.field_up-requires-clause-above
field_up-requires-clause-above c =
    subst (λ (p : Program). AreAbove p (lists_of c.deref.result.now)) (sym (c.requires.same ∙ ap (λ (linked : Linked). linked.program) (sym c.self.view_is)))
    (subst (λ (lists : List (Vec ℕ)). AreAbove c.self.inside.table (lists_of lists)) (sym c.deref.ensures.value) c.self.invariant.above)

pub field_up-requires-clause-shared : goal.field_up-requires-clause-shared
field_up-requires-clause-shared c =
    subst (λ (p : Program). HaveFieldMarks p c.self.inside.shared.fields.items) (sym (c.requires.same ∙ ap (λ (linked : Linked). linked.program) (sym c.self.view_is))) c.self.invariant.shared.fields

pub field_up-requires-clause-fields : goal.field_up-requires-clause-fields
field_up-requires-clause-fields c =
    subst (λ (p : Program). AreFieldChains p c.self.inside.fields) (sym (c.requires.same ∙ ap (λ (linked : Linked). linked.program) (sym c.self.view_is))) c.self.invariant.fields

pub returns : goal.returns
returns c n d h =
    let same : c.args.directory.now.program ≡ c.self.inside.table = c.requires.same ∙ ap (λ (linked : Linked). linked.program) (sym c.self.view_is) in
    let reported = subst (λ (p : Program). FieldSays c.args.class n (desc_in d) c.field_up.result p) same (c.field_up.ensures n d h) in
    subst (λ (linked : Linked). option_map (field_there linked.program) c.field_up.result ≡ option_map Some (resolved_field linked c.args.class n d)) c.self.view_is
    (reported ∙ ap (option_map Some) (sym (field_resolved (record { program = c.self.inside.table; prefix = prefix_of c.self.inside.base }) c.args.class n d
    c.names_differ.ensures (subst (λ (linked : Linked). c.args.class < length linked.program) (sym c.self.view_is) c.requires.there))))
