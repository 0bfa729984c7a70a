use Rattle.std.proofs.Common.{ap, ◌∙◌}
use Rattle.dj_numbering.specs.Own.{array_at}
use Rattle.dj_numbering.specs.Typed.{Typed}
use Rattle.dj_numbering.proofs.types.Types.array_of.Goals as goal

pub returns : goal.returns
returns c = c.array.ensures ∙ (c.self.invariant.own_are.array c.args.base ∙ ap (λ (typed : Typed). array_at typed c.args.base) c.self.view_is)
