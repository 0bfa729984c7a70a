use Rattle.std.proofs.Common.{ap, ◌∙◌}
use Rattle.dj_image.specs.Homes.{field_reported}
use Rattle.dj_image.proofs.operands.field_of.Goals as goal

pub field_in-requires-clause-named : goal.field_in-requires-clause-named
field_in-requires-clause-named c = c.in_ok-named.ensures.numbered c.args.directory c.requires.numbers c.requires.described

pub returns : goal.returns
returns c = c.field_in.ensures ∙ ap (field_reported c.args.types.now c.args.home) c.in_ok-named.ensures.names
