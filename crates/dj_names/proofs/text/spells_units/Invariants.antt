use Rattle.std.proofs.Common.{length}
use Rattle.dj_names.specs.trusted.ModifiedUtf8.{IsModifiedUtf8}
use Rattle.dj_names.proofs.text.spells_units.Given as goal

-- the rest decides
abbrev pub invariant-loop-rest : goal.invariant-loop-rest
invariant-loop-rest l = record { up : IsModifiedUtf8 l.rest → IsModifiedUtf8 l.text; down : IsModifiedUtf8 l.text → IsModifiedUtf8 l.rest }

abbrev pub decreases-loop-rest : goal.decreases-loop-rest
decreases-loop-rest l = length l.rest
