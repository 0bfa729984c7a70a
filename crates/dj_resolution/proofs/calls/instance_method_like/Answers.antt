use Rattle.std.proofs.Common.{◌<◌, ℕ, Option, IfSome, length, slice_get, subst, sym}
use Rattle.std.specs.Option.{option_map}
use Rattle.dj_model.specs.trusted.Linking.{is_not_static}
use Rattle.dj_class_table.specs.Tables.{methods_at, method_there, super_number}
use Rattle.dj_resolution.specs.Numbers.{most_above, numbers_up}
use Rattle.dj_resolution.proofs.Calling.{enough_above, first_of_none, first_of_some, reported_named}
use Rattle.dj_resolution.proofs.Finding.{super_within}
use Rattle.dj_resolution.proofs.Selections.{descriptor_there}
use Rattle.dj_resolution.proofs.calls.instance_method_like.Goals as goal

pub returns-in_err-next : goal.returns-in_err-next
returns-in_err-next c = first_of_none c.args.table.now is_not_static c.args.resolved most_above (super_number c.args.table.now c.args.class) c.from_residual.result (sym c.in_err-next.ensures) c.from_residual.ensures

pub method_up-requires-clause-there : goal.method_up-requires-clause-there
method_up-requires-clause-there c =
    subst (λ (o : Option ℕ). IfSome o (λ k. k < length c.args.table.now)) (sym c.in_ok-next.ensures) (super_within c.args.table.now (slice_get c.args.table.now c.args.class))

pub returns-in-Some : goal.returns-in-Some
returns-in-Some c =
    first_of_some c.args.table.now is_not_static c.args.resolved most_above c.in_ok-next.next (super_number c.args.table.now c.args.class) c.in-Some.place (sym c.in_ok-next.ensures) (c.in-Some.ensures most_above enough_above)

pub instance_method_above-requires-clause-described : goal.instance_method_above-requires-clause-described
instance_method_above-requires-clause-described c =
    descriptor_there (methods_at c.args.table.now c.args.resolved.class) c.args.resolved.member c.method_desc-desc.result.now c.requires.within c.method_desc-desc.ensures

pub returns : goal.returns
returns c found there =
    let table = c.args.table.now in
    reported_named table is_not_static c.args.resolved found there c.method_name-name.result.now c.method_desc-desc.result.now (numbers_up most_above table (super_number table c.args.class))
    (option_map (method_there table) c.instance_method_above.result) c.method_name-name.ensures c.method_desc-desc.ensures c.instance_method_above.ensures
