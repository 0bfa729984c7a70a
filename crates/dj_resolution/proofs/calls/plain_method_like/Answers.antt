use Rattle.std.proofs.Common.{◌<◌, ℕ, Option, Some, IfSome, length, subst}
use Rattle.std.specs.Option.{option_map}
use Rattle.dj_model.specs.trusted.Linking.{is_plain, most_classes}
use Rattle.dj_class_table.specs.Tables.{methods_at, method_there}
use Rattle.dj_resolution.specs.Numbers.{numbers_up}
use Rattle.dj_resolution.proofs.Calling.{enough_classes, first_of_none, first_of_some, reported_named}
use Rattle.dj_resolution.proofs.Selections.{descriptor_there}
use Rattle.dj_resolution.proofs.calls.plain_method_like.Goals as goal

pub returns-in_err-first : goal.returns-in_err-first
returns-in_err-first c = first_of_none c.args.table.now is_plain c.args.resolved most_classes c.args.class c.from_residual.result c.in_err-first.was c.from_residual.ensures

pub method_up-requires-clause-there : goal.method_up-requires-clause-there
method_up-requires-clause-there c = subst (λ (o : Option ℕ). IfSome o (λ k. k < length c.args.table.now)) c.in_ok-first.was c.requires.class

pub returns-in-Some : goal.returns-in-Some
returns-in-Some c = first_of_some c.args.table.now is_plain c.args.resolved most_classes c.in_ok-first.first c.args.class c.in-Some.place c.in_ok-first.was (c.in-Some.ensures most_classes enough_classes)

pub plain_method_from-requires-clause-there : goal.plain_method_from-requires-clause-there
plain_method_from-requires-clause-there c = subst (λ (o : Option ℕ). IfSome o (λ k. k < length c.args.table.now)) c.in_ok-first.was c.requires.class

pub plain_method_from-requires-clause-described : goal.plain_method_from-requires-clause-described
plain_method_from-requires-clause-described c =
    descriptor_there (methods_at c.args.table.now c.args.resolved.class) c.args.resolved.member c.method_desc-desc.result.now c.requires.within c.method_desc-desc.ensures

pub returns : goal.returns
returns c =
    let table = c.args.table.now in
    first_of_some table is_plain c.args.resolved most_classes c.in_ok-first.first c.args.class c.plain_method_from.result c.in_ok-first.was
    (λ found there. reported_named table is_plain c.args.resolved found there c.method_name-name.result.now c.method_desc-desc.result.now (numbers_up most_classes table (Some c.in_ok-first.first))
    (option_map (method_there table) c.plain_method_from.result) c.method_name-name.ensures c.method_desc-desc.ensures c.plain_method_from.ensures)
