use Rattle.std.proofs.Common.{ℕ, List, Some, length, subst, sym, ◌∙◌, ap, arith}
use Rattle.std.specs.Option.{option_map}
use Rattle.dj_declarations.specs.trusted.Files.{desc_in}
use Rattle.dj_resolution.specs.Chained.{field_row}
use Rattle.dj_resolution.specs.Numbers.{AreBelow, field_found, first_some, lists_of}
use Rattle.dj_resolution.proofs.Chained.{list_reported, rows_below}
use Rattle.dj_resolution.proofs.Listed.{field_row_below, fields_found}
use Rattle.dj_resolution.proofs.find_numbered.field_up.Goals as goal

pub list_of-requires : goal.list_of-requires
list_of-requires c = omega (arith, c.requires.fields.count, c.requires.there)

pub field_among-requires-clause-below : goal.field_among-requires-clause-below
field_among-requires-clause-below c =
    subst (AreBelow (length c.args.directory.now.program))
    (sym (list_reported c.args.directory.now.program (field_row c.args.directory.now.program) (lists_of c.args.fields.now.lists.items) c.args.fields.now.places.items c.args.class c.in-Some.list.now c.requires.fields c.in-Some.ensures))
    (rows_below c.args.directory.now.program (field_row c.args.directory.now.program) (length c.args.directory.now.program) c.args.class c.requires.there (field_row_below c.args.directory.now.program))

pub returns-in-Some : goal.returns-in-Some
returns-in-Some c n d h =
    (c.field_among.ensures n d h)
    ∙ ap (λ (xs : List ℕ). option_map Some (first_some (field_found c.args.directory.now.program n (desc_in d)) xs))
    (list_reported c.args.directory.now.program (field_row c.args.directory.now.program) (lists_of c.args.fields.now.lists.items) c.args.fields.now.places.items c.args.class c.in-Some.list.now c.requires.fields c.in-Some.ensures)
    ∙ ap (option_map Some) (fields_found c.args.directory.now.program n (desc_in d) c.args.class)
