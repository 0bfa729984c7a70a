use Rattle.std.proofs.Common.{◌≡◌, Some, None, sym, ap, subst, ◌∙◌}
use Rattle.std.specs.Option.{option_map}
use Rattle.dj_class_table.specs.Tables.{method_there}
use Rattle.dj_resolution.specs.Linked.{resolved_method}
use Rattle.dj_numbering.specs.Typed.{Typed}
use Rattle.dj_numbering.specs.Members.{found_method_number, number_of_method}
use Rattle.dj_numbering.proofs.First.{reported_is}
use Rattle.dj_numbering.proofs.Homes.{method_resolved_in, no_method_resolved}
use Rattle.dj_numbering.proofs.Placed.{method_bounds}
use Rattle.dj_numbering.proofs.types.Types.resolve_described_method.Goals as goal

pub returns-in_err-class : goal.returns-in_err-class
returns-in_err-class c =
    let typed = c.args.self.now in
    ap (option_map number_of_method) c.from_residual.ensures
    ∙ ap (found_method_number typed.program) (sym (no_method_resolved typed c.args.class c.args.name.now c.args.desc.now c.in_err-class.ensures.is))

pub returns-in_err-place : goal.returns-in_err-place
returns-in_err-place c =
    let typed = c.args.self.now in
    let reported = subst (λ (t : Typed). None ≡ option_map Some (resolved_method (record { program = t.program; prefix = t.prefix }) c.in_ok-class.class c.args.name.now c.args.desc.now)) c.self.view_is c.in_err-place.ensures in
    ap (option_map number_of_method) c.from_residual-in_err-place.ensures
    ∙ ap (found_method_number typed.program)
    (reported_is None (resolved_method (record { program = typed.program; prefix = typed.prefix }) c.in_ok-class.class c.args.name.now c.args.desc.now) reported
    ∙ method_resolved_in typed c.args.class c.in_ok-class.class c.args.name.now c.args.desc.now c.in_ok-class.ensures.is)

pub first_method-requires-clause-there : goal.first_method-requires-clause-there
first_method-requires-clause-there c =
    let typed = c.args.self.now in
    let reported = subst (λ (t : Typed). Some (method_there t.program c.in_ok-place.place) ≡ option_map Some (resolved_method (record { program = t.program; prefix = t.prefix }) c.in_ok-class.class c.args.name.now c.args.desc.now)) c.self.view_is c.in_ok-place.ensures in
    (method_bounds typed.program c.in_ok-place.place (resolved_method (record { program = typed.program; prefix = typed.prefix }) c.in_ok-class.class c.args.name.now c.args.desc.now) reported).0

pub first_method-requires-clause-within : goal.first_method-requires-clause-within
first_method-requires-clause-within c =
    let typed = c.args.self.now in
    let reported = subst (λ (t : Typed). Some (method_there t.program c.in_ok-place.place) ≡ option_map Some (resolved_method (record { program = t.program; prefix = t.prefix }) c.in_ok-class.class c.args.name.now c.args.desc.now)) c.self.view_is c.in_ok-place.ensures in
    (method_bounds typed.program c.in_ok-place.place (resolved_method (record { program = typed.program; prefix = typed.prefix }) c.in_ok-class.class c.args.name.now c.args.desc.now) reported).1

pub returns : goal.returns
returns c =
    let typed = c.args.self.now in
    let reported = subst (λ (t : Typed). Some (method_there t.program c.in_ok-place.place) ≡ option_map Some (resolved_method (record { program = t.program; prefix = t.prefix }) c.in_ok-class.class c.args.name.now c.args.desc.now)) c.self.view_is c.in_ok-place.ensures in
    c.first_method.ensures
    ∙ ap (found_method_number typed.program)
    (reported_is (Some (method_there typed.program c.in_ok-place.place)) (resolved_method (record { program = typed.program; prefix = typed.prefix }) c.in_ok-class.class c.args.name.now c.args.desc.now) reported
    ∙ method_resolved_in typed c.args.class c.in_ok-class.class c.args.name.now c.args.desc.now c.in_ok-class.ensures.is)
