use Rattle.std.proofs.Common.{◌≡◌, Some, None, sym, ap, subst, ◌∙◌}
use Rattle.std.specs.Option.{option_map}
use Rattle.dj_class_table.specs.Tables.{field_there}
use Rattle.dj_resolution.specs.Linked.{resolved_field}
use Rattle.dj_numbering.specs.Typed.{Typed}
use Rattle.dj_numbering.specs.Members.{found_field_number, number_of_field}
use Rattle.dj_numbering.proofs.First.{reported_is}
use Rattle.dj_numbering.proofs.Homes.{field_resolved_in, no_field_resolved}
use Rattle.dj_numbering.proofs.Placed.{field_bounds}
use Rattle.dj_numbering.proofs.types.Types.resolve_described_field.Goals as goal

pub returns-in_err-class : goal.returns-in_err-class
returns-in_err-class c =
    let typed = c.args.self.now in
    ap (option_map number_of_field) c.from_residual.ensures
    ∙ ap (found_field_number typed.program) (sym (no_field_resolved typed c.args.class c.args.name.now c.args.desc.now c.in_err-class.ensures.is))

pub returns-in_err-place : goal.returns-in_err-place
returns-in_err-place c =
    let typed = c.args.self.now in
    let reported = subst (λ (t : Typed). None ≡ option_map Some (resolved_field (record { program = t.program; prefix = t.prefix }) c.in_ok-class.class c.args.name.now c.args.desc.now)) c.self.view_is c.in_err-place.ensures in
    ap (option_map number_of_field) c.from_residual-in_err-place.ensures
    ∙ ap (found_field_number typed.program)
    (reported_is None (resolved_field (record { program = typed.program; prefix = typed.prefix }) c.in_ok-class.class c.args.name.now c.args.desc.now) reported
    ∙ field_resolved_in typed c.args.class c.in_ok-class.class c.args.name.now c.args.desc.now c.in_ok-class.ensures.is)

pub first_field-requires-clause-there : goal.first_field-requires-clause-there
first_field-requires-clause-there c =
    let typed = c.args.self.now in
    let reported = subst (λ (t : Typed). Some (field_there t.program c.in_ok-place.place) ≡ option_map Some (resolved_field (record { program = t.program; prefix = t.prefix }) c.in_ok-class.class c.args.name.now c.args.desc.now)) c.self.view_is c.in_ok-place.ensures in
    (field_bounds typed.program c.in_ok-place.place (resolved_field (record { program = typed.program; prefix = typed.prefix }) c.in_ok-class.class c.args.name.now c.args.desc.now) reported).0

pub first_field-requires-clause-within : goal.first_field-requires-clause-within
first_field-requires-clause-within c =
    let typed = c.args.self.now in
    let reported = subst (λ (t : Typed). Some (field_there t.program c.in_ok-place.place) ≡ option_map Some (resolved_field (record { program = t.program; prefix = t.prefix }) c.in_ok-class.class c.args.name.now c.args.desc.now)) c.self.view_is c.in_ok-place.ensures in
    (field_bounds typed.program c.in_ok-place.place (resolved_field (record { program = typed.program; prefix = typed.prefix }) c.in_ok-class.class c.args.name.now c.args.desc.now) reported).1

pub returns : goal.returns
returns c =
    let typed = c.args.self.now in
    let reported = subst (λ (t : Typed). Some (field_there t.program c.in_ok-place.place) ≡ option_map Some (resolved_field (record { program = t.program; prefix = t.prefix }) c.in_ok-class.class c.args.name.now c.args.desc.now)) c.self.view_is c.in_ok-place.ensures in
    c.first_field.ensures
    ∙ ap (found_field_number typed.program)
    (reported_is (Some (field_there typed.program c.in_ok-place.place)) (resolved_field (record { program = typed.program; prefix = typed.prefix }) c.in_ok-class.class c.args.name.now c.args.desc.now) reported
    ∙ field_resolved_in typed c.args.class c.in_ok-class.class c.args.name.now c.args.desc.now c.in_ok-class.ensures.is)
