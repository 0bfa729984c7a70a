use Rattle.std.proofs.Common.{◌≡◌, Some, None, ap, subst, ◌∙◌}
use Rattle.std.specs.Option.{option_map}
use Rattle.dj_model.specs.trusted.Linking.{FoundMethod, special_method}
use Rattle.dj_class_table.specs.Tables.{method_there}
use Rattle.dj_resolution.specs.Linked.{class_name}
use Rattle.dj_resolution.specs.Numbers.{SaysMethod}
use Rattle.dj_numbering.specs.Typed.{Typed}
use Rattle.dj_numbering.specs.Members.{all_methods, special_of, found_method_number, number_of_method}
use Rattle.dj_numbering.proofs.First.{reported_is}
use Rattle.dj_numbering.proofs.Homes.{special_reported}
use Rattle.dj_numbering.proofs.Placed.{method_bounds}
use Rattle.dj_numbering.proofs.Starts.{some_there}
use Rattle.dj_numbering.proofs.types.Types.special.Goals as goal

pub first_method-requires-clause-there : goal.first_method-requires-clause-there
first_method-requires-clause-there c =
    let typed = c.args.self.now in
    let place = c.method_place-resolved.result in
    let found = some_there (all_methods typed.program) c.args.method.number c.requires.there in
    let reported =
    subst
    (λ (t : Typed). (f : FoundMethod) → method_there t.program place ≡ Some f → SaysMethod t.program (Some c.in_ok-taken.taken) (special_method t.program (class_name t.program c.args.class) f))
    c.self.view_is c.in_ok-taken.ensures found.0 (c.method_place-resolved.ensures.is ∙ found.1)
    in
    (method_bounds typed.program c.in_ok-taken.taken (special_method typed.program (class_name typed.program c.args.class) found.0) reported).0

pub first_method-requires-clause-within : goal.first_method-requires-clause-within
first_method-requires-clause-within c =
    let typed = c.args.self.now in
    let place = c.method_place-resolved.result in
    let found = some_there (all_methods typed.program) c.args.method.number c.requires.there in
    let reported =
    subst
    (λ (t : Typed). (f : FoundMethod) → method_there t.program place ≡ Some f → SaysMethod t.program (Some c.in_ok-taken.taken) (special_method t.program (class_name t.program c.args.class) f))
    c.self.view_is c.in_ok-taken.ensures found.0 (c.method_place-resolved.ensures.is ∙ found.1)
    in
    (method_bounds typed.program c.in_ok-taken.taken (special_method typed.program (class_name typed.program c.args.class) found.0) reported).1

pub returns : goal.returns
returns c =
    let typed = c.args.self.now in
    let place = c.method_place-resolved.result in
    let found = some_there (all_methods typed.program) c.args.method.number c.requires.there in
    let reported =
    subst
    (λ (t : Typed). (f : FoundMethod) → method_there t.program place ≡ Some f → SaysMethod t.program (Some c.in_ok-taken.taken) (special_method t.program (class_name t.program c.args.class) f))
    c.self.view_is c.in_ok-taken.ensures found.0 (c.method_place-resolved.ensures.is ∙ found.1)
    in
    c.first_method.ensures
    ∙ ap (found_method_number typed.program)
    (reported_is (Some (method_there typed.program c.in_ok-taken.taken)) (special_of typed c.args.method.number c.args.class)
    (special_reported typed c.args.method.number c.args.class found.0 (Some (method_there typed.program c.in_ok-taken.taken)) found.1 reported))

pub returns-in_err-taken : goal.returns-in_err-taken
returns-in_err-taken c =
    let typed = c.args.self.now in
    let place = c.method_place-resolved.result in
    let found = some_there (all_methods typed.program) c.args.method.number c.requires.there in
    let reported =
    subst
    (λ (t : Typed). (f : FoundMethod) → method_there t.program place ≡ Some f → SaysMethod t.program None (special_method t.program (class_name t.program c.args.class) f))
    c.self.view_is c.in_err-taken.ensures found.0 (c.method_place-resolved.ensures.is ∙ found.1)
    in
    ap (option_map number_of_method) c.from_residual.ensures
    ∙ ap (found_method_number typed.program)
    (reported_is None (special_of typed c.args.method.number c.args.class) (special_reported typed c.args.method.number c.args.class found.0 None found.1 reported))
