use Rattle.std.proofs.Common.{ap, ◌∙◌}
use Rattle.dj_numbering.specs.Own.{raised_at}
use Rattle.dj_numbering.specs.Typed.{Typed}
use Rattle.dj_numbering.proofs.types.Types.raised.Goals as goal

pub returns : goal.returns
returns c = c.raised.ensures ∙ (c.self.invariant.own_are.raised c.args.raised ∙ ap (λ (typed : Typed). raised_at typed c.args.raised) c.self.view_is)
