use Rattle.std.proofs.Common.{ℕ, List, Some, length, subst, sym, ◌∙◌, ap, arith}
use Rattle.std.specs.Option.{option_map}
use Rattle.dj_model.specs.trusted.Linking.{is_plain}
use Rattle.dj_declarations.specs.trusted.Files.{desc_in}
use Rattle.dj_resolution.specs.Numbers.{AreBelow, first_some, lists_of, method_found, once_above}
use Rattle.dj_resolution.proofs.Chained.{list_reported, rows_below}
use Rattle.dj_resolution.proofs.Listed.{methods_found}
use Rattle.dj_resolution.proofs.Marks.{once_below}
use Rattle.dj_resolution.proofs.find_numbered.plain_method_up.Goals as goal

pub list_of-requires : goal.list_of-requires
list_of-requires c = omega (arith, c.requires.methods.count, c.requires.there)

pub plain_method_among-requires-clause-below : goal.plain_method_among-requires-clause-below
plain_method_among-requires-clause-below c =
    subst (AreBelow (length c.args.directory.now.program))
    (sym (list_reported c.args.directory.now.program (once_above c.args.directory.now.program) (lists_of c.args.methods.now.lists.items) c.args.methods.now.places.items c.args.class c.in-Some.list.now c.requires.methods c.in-Some.ensures))
    (rows_below c.args.directory.now.program (once_above c.args.directory.now.program) (length c.args.directory.now.program) c.args.class c.requires.there (λ k lt. once_below c.args.directory.now.program k))

pub returns-in-Some : goal.returns-in-Some
returns-in-Some c n d h =
    (c.plain_method_among.ensures n d h)
    ∙ ap (λ (xs : List ℕ). option_map Some (first_some (method_found c.args.directory.now.program is_plain n (desc_in d)) xs))
    (list_reported c.args.directory.now.program (once_above c.args.directory.now.program) (lists_of c.args.methods.now.lists.items) c.args.methods.now.places.items c.args.class c.in-Some.list.now c.requires.methods c.in-Some.ensures)
    ∙ ap (option_map Some) (methods_found (method_found c.args.directory.now.program is_plain n (desc_in d)) c.args.directory.now.program c.args.class)
