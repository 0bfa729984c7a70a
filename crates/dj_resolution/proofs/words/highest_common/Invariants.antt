use Rattle.dj_resolution.proofs.Tops.{NonePast}
use Rattle.dj_resolution.proofs.words.highest_common.Given as goal

-- none of those in the last words so far
abbrev pub invariant-loop-back : goal.invariant-loop-back
invariant-loop-back l = NonePast l.words l.others l.back
