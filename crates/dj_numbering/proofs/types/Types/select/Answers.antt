use Rattle.std.proofs.Common.{◌≡◌, Some, None, ap, subst, ◌∙◌}
use Rattle.std.specs.Option.{option_map}
use Rattle.dj_names.specs.declared.descriptor.Ty.{Ty}
use Rattle.dj_model.specs.trusted.Linking.{FoundMethod, member_class, select}
use Rattle.dj_class_table.specs.Tables.{class_number, method_there}
use Rattle.dj_resolution.specs.Numbers.{SaysMethod}
use Rattle.dj_numbering.specs.Typed.{Typed, type_at}
use Rattle.dj_numbering.specs.Members.{all_methods, selected, found_method_number, number_of_method}
use Rattle.dj_numbering.proofs.First.{reported_is}
use Rattle.dj_numbering.proofs.Homes.{selected_reported}
use Rattle.dj_numbering.proofs.Placed.{method_bounds}
use Rattle.dj_numbering.proofs.Starts.{some_there}
use Rattle.dj_numbering.proofs.types.Types.select.Goals as goal

pub first_method-requires-clause-there : goal.first_method-requires-clause-there
first_method-requires-clause-there c =
    let typed = c.args.self.now in
    let place = c.method_place-resolved.result in
    let found = some_there (all_methods typed.program) c.args.method.number c.requires.there in
    let reported =
    subst
    (λ (t : Typed). (f : FoundMethod) (ty : Ty) → method_there t.program place ≡ Some f → c.member_class-class.result ≡ class_number t.program (member_class t.prefix ty) → SaysMethod t.program (Some c.in_ok-taken.taken) (select t.program t.prefix f ty))
    c.self.view_is c.in_ok-taken.ensures found.0 (type_at typed c.args.class) (c.method_place-resolved.ensures.is ∙ found.1) c.member_class-class.ensures.is
    in
    (method_bounds typed.program c.in_ok-taken.taken (select typed.program typed.prefix found.0 (type_at typed c.args.class)) reported).0

pub first_method-requires-clause-within : goal.first_method-requires-clause-within
first_method-requires-clause-within c =
    let typed = c.args.self.now in
    let place = c.method_place-resolved.result in
    let found = some_there (all_methods typed.program) c.args.method.number c.requires.there in
    let reported =
    subst
    (λ (t : Typed). (f : FoundMethod) (ty : Ty) → method_there t.program place ≡ Some f → c.member_class-class.result ≡ class_number t.program (member_class t.prefix ty) → SaysMethod t.program (Some c.in_ok-taken.taken) (select t.program t.prefix f ty))
    c.self.view_is c.in_ok-taken.ensures found.0 (type_at typed c.args.class) (c.method_place-resolved.ensures.is ∙ found.1) c.member_class-class.ensures.is
    in
    (method_bounds typed.program c.in_ok-taken.taken (select typed.program typed.prefix found.0 (type_at typed c.args.class)) reported).1

pub returns : goal.returns
returns c =
    let typed = c.args.self.now in
    let place = c.method_place-resolved.result in
    let found = some_there (all_methods typed.program) c.args.method.number c.requires.there in
    let reported =
    subst
    (λ (t : Typed). (f : FoundMethod) (ty : Ty) → method_there t.program place ≡ Some f → c.member_class-class.result ≡ class_number t.program (member_class t.prefix ty) → SaysMethod t.program (Some c.in_ok-taken.taken) (select t.program t.prefix f ty))
    c.self.view_is c.in_ok-taken.ensures found.0 (type_at typed c.args.class) (c.method_place-resolved.ensures.is ∙ found.1) c.member_class-class.ensures.is
    in
    c.first_method.ensures
    ∙ ap (found_method_number typed.program)
    (reported_is (Some (method_there typed.program c.in_ok-taken.taken)) (selected typed c.args.method.number c.args.class)
    (selected_reported typed c.args.method.number c.args.class found.0 (Some (method_there typed.program c.in_ok-taken.taken)) found.1 reported))

pub returns-in_err-taken : goal.returns-in_err-taken
returns-in_err-taken c =
    let typed = c.args.self.now in
    let place = c.method_place-resolved.result in
    let found = some_there (all_methods typed.program) c.args.method.number c.requires.there in
    let reported =
    subst
    (λ (t : Typed). (f : FoundMethod) (ty : Ty) → method_there t.program place ≡ Some f → c.member_class-class.result ≡ class_number t.program (member_class t.prefix ty) → SaysMethod t.program (None) (select t.program t.prefix f ty))
    c.self.view_is c.in_err-taken.ensures found.0 (type_at typed c.args.class) (c.method_place-resolved.ensures.is ∙ found.1) c.member_class-class.ensures.is
    in
    ap (option_map number_of_method) c.from_residual.ensures
    ∙ ap (found_method_number typed.program)
    (reported_is None (selected typed c.args.method.number c.args.class) (selected_reported typed c.args.method.number c.args.class found.0 None found.1 reported))
