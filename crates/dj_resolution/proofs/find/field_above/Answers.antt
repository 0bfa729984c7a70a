use Rattle.std.proofs.Common.{List, ℕ, Some, length, sym, ◌∙◌, ap, subst}
use Rattle.std.specs.Option.{option_map}
use Rattle.dj_declarations.specs.trusted.Files.{desc_in}
use Rattle.dj_class_table.specs.Tables.{field_there}
use Rattle.dj_resolution.specs.Numbers.{AreBelow, field_found, first_some, numbers_above}
use Rattle.dj_resolution.proofs.Finding.{reported_next}
use Rattle.dj_resolution.proofs.Marks.{above_is, once_below}
use Rattle.dj_resolution.proofs.Searches.{reported_above}
use Rattle.dj_resolution.proofs.find.field_above.Goals as goal

pub field_among-requires-clause-there : goal.field_among-requires-clause-there
field_among-requires-clause-there c =
    subst (λ (xs : List ℕ). AreBelow (length c.args.table.now) xs)
    (sym (c.deref.ensures.value ∙ above_is c.args.table.now c.args.above.now c.args.class c.index-above-class.result c.requires.above c.requires.there c.index-above-class.is))
    (once_below c.args.table.now c.args.class)

pub returns-in-None : goal.returns-in-None
returns-in-None c =
    reported_above (field_found c.args.table.now c.args.name.now (desc_in c.args.desc.now)) c.deref.result.now (numbers_above c.args.table.now c.args.class) (option_map (field_there c.args.table.now) c.field_among.result)
    (c.deref.ensures.value ∙ above_is c.args.table.now c.args.above.now c.args.class c.index-above-class.result c.requires.above c.requires.there c.index-above-class.is)
    c.field_among.ensures
    ∙ ap (option_map Some) (sym (reported_next (field_found c.args.table.now c.args.name.now (desc_in c.args.desc.now) c.args.class)
    (first_some (field_found c.args.table.now c.args.name.now (desc_in c.args.desc.now)) (numbers_above c.args.table.now c.args.class)) c.in-None.ensures))
