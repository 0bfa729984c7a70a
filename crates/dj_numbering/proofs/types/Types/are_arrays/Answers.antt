use Rattle.std.proofs.Common.{subst}
use Rattle.dj_numbering.specs.Typed.{Typed, AreArrays}
use Rattle.dj_numbering.proofs.types.Types.are_arrays.Goals as goal

pub returns : goal.returns
returns c = subst (λ (t : Typed). AreArrays t.program t.arrays) c.self.view_is c.self.invariant.arrays_are.are_arrays
