use Rattle.dj_natives.proofs.HeapLaws.{FillsTo}
use Rattle.dj_natives.proofs.perform.fill.Given as goal

-- the elements so far
abbrev pub invariant-loop-at : goal.invariant-loop-at
invariant-loop-at l = FillsTo l.initial.heap l.heap l.array l.units l.at
