use Rattle.std.proofs.Common.{ap, ◌∙◌}
use Rattle.dj_numbering.specs.Typed.{stop_at}
use Rattle.dj_numbering.proofs.types.Types.stop.Goals as goal

pub returns : goal.returns
returns c = c.self.invariant.own_are.stop ∙ ap stop_at c.self.view_is
