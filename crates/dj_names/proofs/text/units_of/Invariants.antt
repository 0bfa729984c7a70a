use Rattle.std.proofs.Common.{length}
use Rattle.dj_names.proofs.UnitLaws.{SpellsUpTo}
use Rattle.dj_names.proofs.text.units_of.Given as goal

abbrev pub invariant-loop-rest : goal.invariant-loop-rest
invariant-loop-rest l = SpellsUpTo l.text l.units l.rest

abbrev pub decreases-loop-rest : goal.decreases-loop-rest
decreases-loop-rest l = length l.rest
