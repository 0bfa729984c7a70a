use Rattle.dj_settling.proofs.StopLaws.{IsFirstFrom}
use Rattle.dj_settling.proofs.stopping.first_of.Given as goal

abbrev pub invariant-loop-at : goal.invariant-loop-at
invariant-loop-at l = IsFirstFrom l.class l.at l.heap.heap.objects
