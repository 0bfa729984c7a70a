use Rattle.std.proofs.Common.{ap, ◌∙◌}
use Rattle.dj_names.specs.declared.descriptor.Base.TheVariants as bases
use Rattle.dj_numbering.specs.Typed.{chars_at}
use Rattle.dj_numbering.proofs.types.Types.chars.Goals as goal

pub returns : goal.returns
returns c = c.self.invariant.own_are.array bases.Char ∙ ap chars_at c.self.view_is
