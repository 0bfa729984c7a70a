use Rattle.std.proofs.Common.{ap, ◌∙◌}
use Rattle.dj_image.specs.Homes.{method_reported}
use Rattle.dj_image.proofs.operands.method_of.Goals as goal

pub method_in-requires-clause-named : goal.method_in-requires-clause-named
method_in-requires-clause-named c = c.in_ok-named.ensures.numbered c.args.directory c.requires.numbers c.requires.described

pub returns : goal.returns
returns c = c.method_in.ensures ∙ ap (method_reported c.args.types.now c.args.home) c.in_ok-named.ensures.names
