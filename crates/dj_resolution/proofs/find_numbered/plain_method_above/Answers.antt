use Rattle.std.proofs.Common.{List, ℕ, length, sym, ◌∙◌, subst}
use Rattle.std.specs.Option.{option_map}
use Rattle.dj_model.specs.trusted.Linking.{is_plain}
use Rattle.dj_declarations.specs.trusted.Files.{desc_in}
use Rattle.dj_class_table.specs.Tables.{method_there}
use Rattle.dj_resolution.specs.Numbers.{AreBelow, method_found, numbers_above}
use Rattle.dj_resolution.proofs.Marks.{above_is, once_below}
use Rattle.dj_resolution.proofs.Searches.{reported_above}
use Rattle.dj_resolution.proofs.find_numbered.plain_method_above.Goals as goal

pub plain_method_among-requires-clause-below : goal.plain_method_among-requires-clause-below
plain_method_among-requires-clause-below c =
    subst (λ (xs : List ℕ). AreBelow (length c.args.directory.now.program) xs)
    (sym (c.deref.ensures.value ∙ above_is c.args.directory.now.program c.args.above.now c.args.class c.index-above-class.result c.requires.above c.requires.there c.index-above-class.is))
    (once_below c.args.directory.now.program c.args.class)

pub returns : goal.returns
returns c n d h =
    reported_above (method_found c.args.directory.now.program is_plain n (desc_in d)) c.deref.result.now (numbers_above c.args.directory.now.program c.args.class) (option_map (method_there c.args.directory.now.program) c.plain_method_among.result)
    (c.deref.ensures.value ∙ above_is c.args.directory.now.program c.args.above.now c.args.class c.index-above-class.result c.requires.above c.requires.there c.index-above-class.is)
    (c.plain_method_among.ensures n d h)
