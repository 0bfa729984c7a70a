use Rattle.dj_resolution.proofs.Tops.{NoneAbove}
use Rattle.dj_resolution.proofs.words.common_in.Given as goal

-- none of the higher ones so far
abbrev pub invariant-loop-back : goal.invariant-loop-back
invariant-loop-back l = NoneAbove l.words l.others l.at l.back
