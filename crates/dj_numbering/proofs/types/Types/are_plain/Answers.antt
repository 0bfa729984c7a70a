use Rattle.std.proofs.Common.{subst}
use Rattle.dj_numbering.specs.Typed.{Typed, ArePlain}
use Rattle.dj_numbering.proofs.types.Types.are_plain.Goals as goal

pub returns : goal.returns
returns c = subst (λ (t : Typed). ArePlain t.program) c.self.view_is c.self.invariant.plain
