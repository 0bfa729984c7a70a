use Rattle.dj_ops.proofs.Rising.{RiseTo}
use Rattle.dj_ops.proofs.matches.is_rising.Given as goal

abbrev pub invariant-loop-i : goal.invariant-loop-i
invariant-loop-i l = RiseTo l.pairs l.i
