use Rattle.std.proofs.Common.{ap, ◌∙◌}
use Rattle.dj_numbering.specs.Typed.{string_at}
use Rattle.dj_numbering.proofs.types.Types.string.Goals as goal

pub returns : goal.returns
returns c = c.self.invariant.own_are.string ∙ ap string_at c.self.view_is
