use Rattle.std.proofs.Common.{ℕ, List, Some, length, subst, sym, ◌∙◌, ap, arith}
use Rattle.std.specs.Option.{option_map}
use Rattle.dj_model.specs.trusted.Linking.{is_plain}
use Rattle.dj_declarations.specs.trusted.Files.{desc_in}
use Rattle.dj_resolution.specs.Numbers.{AreBelow, first_some, lists_of, method_found, once_above}
use Rattle.dj_resolution.proofs.Chained.{list_reported, rows_below}
use Rattle.dj_resolution.proofs.Listed.{methods_found}
use Rattle.dj_resolution.proofs.Marks.{once_below}
use Rattle.dj_resolution.proofs.find.plain_method_up.Goals as goal

pub list_of-requires : goal.list_of-requires
list_of-requires c = omega (arith, c.requires.methods.count, c.requires.there)

pub plain_method_among-requires-clause-there : goal.plain_method_among-requires-clause-there
plain_method_among-requires-clause-there c =
    subst (AreBelow (length c.args.table.now))
    (sym (list_reported c.args.table.now (once_above c.args.table.now) (lists_of c.args.methods.now.lists.items) c.args.methods.now.places.items c.args.class c.in-Some.list.now c.requires.methods c.in-Some.ensures))
    (rows_below c.args.table.now (once_above c.args.table.now) (length c.args.table.now) c.args.class c.requires.there (λ k lt. once_below c.args.table.now k))

pub returns-in-Some : goal.returns-in-Some
returns-in-Some c =
    c.plain_method_among.ensures
    ∙ ap (λ (xs : List ℕ). option_map Some (first_some (method_found c.args.table.now is_plain c.args.name.now (desc_in c.args.desc.now)) xs))
    (list_reported c.args.table.now (once_above c.args.table.now) (lists_of c.args.methods.now.lists.items) c.args.methods.now.places.items c.args.class c.in-Some.list.now c.requires.methods c.in-Some.ensures)
    ∙ ap (option_map Some) (methods_found (method_found c.args.table.now is_plain c.args.name.now (desc_in c.args.desc.now)) c.args.table.now c.args.class)
